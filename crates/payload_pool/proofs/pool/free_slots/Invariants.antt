use Rattle.std.proofs.Common.{◌≡◌, replicate}
use Rattle.payload_pool.specs.Slots.{fresh_slot}
use Rattle.payload_pool.proofs.pool.free_slots.Given as goal

abbrev pub invariant-loop : goal.invariant-loop
invariant-loop l = l.all.items ≡ replicate l.counter (fresh_slot l.room)
