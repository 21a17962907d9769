-- A memory as an object of the history: how it is built, and what it has written.
use Rattle.std.specs.Prelude.{ℕ, ◌+◌, List, [], ◌∷◌, None, length}
use Rattle.tlm_types.specs.declared.words.MemoryTraits.{MemoryTraits}
use Rattle.tlm_types.specs.declared.words.ObjectNo.TheVariants.{Memory}
use Rattle.tlm_types.specs.declared.entry.Content.{Content}
use Rattle.tlm_types.specs.declared.entry.Entry.{Entry}
use Rattle.shared_object.specs.Written.{Built, Written, noted}
use Rattle.region_object.specs.declared.call.RegionCall.{RegionCall}
use Rattle.region_object.specs.Call.{txn_of, time_of}
use Rattle.region_object.specs.Region.{LoggedMemory, what_of}

-- a memory has its traits and its own gates, and no second book
abbrev pub built_of : LoggedMemory → Built MemoryTraits
built_of m = record { object = Memory m.number; made = m.traits; gates = (m.first_gate, m.traits.gates); book = None }

-- each entry has its index in the log as its number
abbrev pub written_from : ℕ → List Entry → List Written
written_from n [] = []
written_from n (e ∷ es) = noted n e ∷ written_from (n + 1) es

-- what the entry of a call says
abbrev pub content_of : LoggedMemory → RegionCall → Content
content_of m call = record { txn = txn_of call; time = time_of call; what = what_of m call; number = length m.log.entries }
