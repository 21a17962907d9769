use Rattle.std.proofs.Common.{◌≤◌, ◌-◌, ◌==◌, length}
use Rattle.std.specs.List.{position_or_len}
use Rattle.payload_pool.proofs.slot.place_in.Given as goal

abbrev pub invariant-loop-place : goal.invariant-loop-place
invariant-loop-place l = l.place ≤ position_or_len (λ m. m == l.number) l.numbers

abbrev pub decreases-loop-place : goal.decreases-loop-place
decreases-loop-place l = length l.numbers - l.place
