-- The part of a history that is one memory's.
use Rattle.std.specs.Prelude.{ℕ, ◌≡◌, List, [], ◌∷◌}
use Rattle.tlm_types.specs.declared.words.MemoryTraits.{MemoryTraits}
use Rattle.tlm_types.specs.declared.entry.Entry.{Entry}
use Rattle.tlm_types.specs.declared.entry.What.{What}
use Rattle.tlm_types.specs.declared.entry.What.TheVariants.{Access as Accessed}
use Rattle.tlm_model.specs.Store.{zeros, status_of, got_of, store_after}

-- a memory's bytes after what happened there
abbrev pub bytes_after : What → List ℕ → List ℕ
bytes_after (Accessed way access status got) bytes = store_after way status access bytes
bytes_after w bytes = bytes

abbrev pub bytes_from : List ℕ → List Entry → List ℕ
bytes_from bytes [] = bytes
bytes_from bytes (e ∷ es) = bytes_from (bytes_after e.what bytes) es

-- a memory's bytes after its log
abbrev pub log_bytes : MemoryTraits → List Entry → List ℕ
log_bytes m log = bytes_from (zeros m.size) log

abbrev pub AnswersByBytes : MemoryTraits → List ℕ → What → Type 0
AnswersByBytes m bytes (Accessed way access status got) = (status ≡ status_of m way access) × (got ≡ got_of way status access bytes)
AnswersByBytes m bytes w = Unit {0}

abbrev pub IsLogFrom : MemoryTraits → List ℕ → List Entry → Type 0
IsLogFrom m bytes [] = Unit {0}
IsLogFrom m bytes (e ∷ es) = AnswersByBytes m bytes e.what × IsLogFrom m (bytes_after e.what bytes) es

-- the statuses and bytes of a log are those of its memory
abbrev pub IsLog : MemoryTraits → List Entry → Type 0
IsLog m log = IsLogFrom m (zeros m.size) log
