-- Histories, and the stores that one plain byte store gives for them.
use Rattle.std.specs.Prelude.{ℕ, ◌≡◌, ◌+◌, Bool, false, List, [], ◌∷◌, Option, Some, None, slice_get, if◌then◌else◌, ◌==◌}
use Rattle.std.specs.List.{filter}
use Rattle.tlm_types.specs.declared.words.ObjectNo.{ObjectNo}
use Rattle.tlm_types.specs.declared.words.ObjectNo.TheVariants.{Memory, Hop, Pool}
use Rattle.tlm_types.specs.declared.words.Way.{Way}
use Rattle.tlm_types.specs.declared.words.Response.{Response}
use Rattle.tlm_types.specs.declared.entry.Access.{Access}
use Rattle.tlm_types.specs.declared.entry.Entry.{Entry}
use Rattle.tlm_types.specs.declared.entry.What.{What}
use Rattle.tlm_types.specs.declared.entry.What.TheVariants.{Access as Accessed}
use Rattle.tlm_model.specs.declared.platform.MemoryRow.{MemoryRow}
use Rattle.tlm_model.specs.declared.platform.Platform.{Platform}
use Rattle.tlm_model.specs.Store.{zeros, status_of, got_of, store_after}

-- item k has position k, counted from n
abbrev pub IsNumberedFrom : ℕ → List Entry → Type 0
IsNumberedFrom n [] = Unit {0}
IsNumberedFrom n (e ∷ es) = (e.position ≡ n) × IsNumberedFrom (n + 1) es

-- a history is a list of entries, each with its position
abbrev pub IsNumbered : List Entry → Type 0
IsNumbered h = IsNumberedFrom 0 h

abbrev pub is_object : ObjectNo → ObjectNo → Bool
is_object (Memory m) (Memory n) = n == m
is_object (Memory m) (Hop n) = false
is_object (Memory m) (Pool n) = false
is_object (Hop m) (Memory n) = false
is_object (Hop m) (Hop n) = n == m
is_object (Hop m) (Pool n) = false
is_object (Pool m) (Memory n) = false
is_object (Pool m) (Hop n) = false
is_object (Pool m) (Pool n) = n == m

-- the entries of one object, in order
abbrev pub entries_at : ObjectNo → List Entry → List Entry
entries_at o h = filter (λ e. is_object o e.object) h

-- a store gives each memory its bytes
abbrev pub Store : Type 0
Store = ℕ → List ℕ

abbrev pub zeros_of : Option MemoryRow → List ℕ
zeros_of None = []
zeros_of (Some row) = zeros row.traits.size

-- each memory starts as zeros
abbrev pub opening_store : Platform → Store
opening_store p m = zeros_of (slice_get p.memories m)

-- the store with other bytes in one memory
abbrev pub put : Store → ℕ → List ℕ → Store
put s m bytes k = if m == k then bytes else s k

-- the store after what happened at an object
abbrev pub after : ObjectNo → What → Store → Store
after (Memory m) (Accessed way access status got) s = put s m (store_after way status access (s m))
after o w s = s

abbrev pub IsAnswer : Option MemoryRow → List ℕ → Way → Access → Response → List ℕ → Type 0
IsAnswer None bytes way access status got = ⊥
IsAnswer (Some row) bytes way access status got =
    (status ≡ status_of row.traits way access) × (got ≡ got_of way status access bytes)

-- an access stands at a memory that there is, and its status and bytes are those of the store
abbrev pub IsLegalEntry : Platform → Store → ObjectNo → What → Type 0
IsLegalEntry p s (Memory m) (Accessed way access status got) = IsAnswer (slice_get p.memories m) (s m) way access status got
IsLegalEntry p s (Hop h) (Accessed way access status got) = ⊥
IsLegalEntry p s (Pool h) (Accessed way access status got) = ⊥
IsLegalEntry p s o w = Unit {0}

abbrev pub IsLegalFrom : Platform → Store → List Entry → Type 0
IsLegalFrom p s [] = Unit {0}
IsLegalFrom p s (e ∷ es) = IsLegalEntry p s e.object e.what × IsLegalFrom p (after e.object e.what s) es

-- the statuses and bytes of a history are those of one plain byte store
abbrev pub IsStoreLegal : Platform → List Entry → Type 0
IsStoreLegal p h = IsLegalFrom p (opening_store p) h

abbrev pub store_from : Store → List Entry → Store
store_from s [] = s
store_from s (e ∷ es) = store_from (after e.object e.what s) es

-- the store after a history
abbrev pub last_store : Platform → List Entry → Store
last_store p h = store_from (opening_store p) h
