-- The objects of a platform in one row: the memories, then the hops, then the pools.
use Rattle.std.specs.Prelude.{ℕ, ◌+◌, ◌-◌, length, if◌then◌else◌, nat_lt}
use Rattle.tlm_types.specs.declared.words.ObjectNo.{ObjectNo}
use Rattle.tlm_types.specs.declared.words.ObjectNo.TheVariants.{Memory, Hop, Pool}
use Rattle.tlm_model.specs.declared.platform.Platform.{Platform}
use Rattle.route_plan.specs.Valid.{hop_count}

abbrev pub object_count : Platform → ℕ
object_count p = length p.memories + hop_count p + length p.initiators

-- the place of an object in the row
abbrev pub object_place : Platform → ObjectNo → ℕ
object_place p (Memory m) = m
object_place p (Hop h) = length p.memories + h
object_place p (Pool n) = length p.memories + hop_count p + n

-- the object at place k
abbrev pub object_at : Platform → ℕ → ObjectNo
object_at p k =
    if nat_lt k (length p.memories) then Memory k
    else if nat_lt k (length p.memories + hop_count p) then Hop (k - length p.memories)
    else Pool (k - (length p.memories + hop_count p))
