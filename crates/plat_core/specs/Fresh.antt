-- Memories before their first access.
use Rattle.std.specs.Prelude.{ℕ, ◌≡◌, ◌≤◌, List, [], length, Some, IsSomeAnd, slice_get}
use Rattle.tlm_types.specs.declared.words.ObjectNo.TheVariants.{Memory as memory_object}
use Rattle.tlm_model.specs.declared.platform.MemoryRow.{MemoryRow}
use Rattle.tlm_model.specs.Plan.{Plan}
use Rattle.route_plan.specs.Planned.{logged_bytes, planned_at}
use Rattle.region_object.specs.Region.{LoggedMemory}

-- memory k, with an empty log that has room for the entries and the bytes that are planned
pub record IsFresh (p : Plan) (k : ℕ) (m : LoggedMemory) : Type 0 where
  pub number : m.number ≡ k
  pub row : IsSomeAnd (slice_get p.platform.memories k) (λ (row : MemoryRow). m.traits ≡ row.traits)
  pub empty : m.log.entries ≡ []
  pub room : m.log.room ≡ planned_at p (memory_object k)
  pub bytes : m.log.room_bytes ≡ logged_bytes p k
  pub few : m.log.room ≤ 1000000

-- the first n memories
pub record AreFresh (p : Plan) (regions : List LoggedMemory) (n : ℕ) : Type 0 where
  pub count : length regions ≡ n
  pub each : (k : ℕ) (m : LoggedMemory) → slice_get regions k ≡ Some m → IsFresh p k m
