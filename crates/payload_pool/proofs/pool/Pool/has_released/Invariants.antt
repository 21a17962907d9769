use Rattle.std.proofs.Common.{ℕ, ◌<◌}
use Rattle.std.specs.Prelude.{IsSomeAnd, slice_get}
use Rattle.flow_model.specs.Events.{IsReleased}
use Rattle.payload_pool.proofs.pool.Pool.has_released.Given as goal

abbrev pub invariant-loop-at : goal.invariant-loop-at
invariant-loop-at l = (i : ℕ) → i < l.at → IsSomeAnd (slice_get l.self.log.events i) (IsReleased l.txn l.number) → ⊥
