-- How many gates each object of a plan has.
use Rattle.std.specs.Prelude.{ℕ, List, map, Option, Some, None, slice_get}
use Rattle.tlm_types.specs.declared.words.ObjectNo.{ObjectNo}
use Rattle.tlm_types.specs.declared.words.ObjectNo.TheVariants.{Memory, Hop, Pool}
use Rattle.tlm_model.specs.declared.platform.MemoryRow.{MemoryRow}
use Rattle.tlm_model.specs.declared.platform.Platform.{Platform}
use Rattle.cargo_model.specs.Known.{objects_of}

abbrev pub row_gates : Option MemoryRow → ℕ
row_gates None = 0
row_gates (Some row) = row.traits.gates

-- how many gates an object has: no other than a memory has any
abbrev pub gates_at : Platform → ObjectNo → ℕ
gates_at p (Memory m) = row_gates (slice_get p.memories m)
gates_at p (Hop h) = 0
gates_at p (Pool n) = 0

-- the gates of each object, at the place of its number in the history
unfoldable pub gates_of : Platform → List ℕ
gates_of p = map (gates_at p) (objects_of p)
