use Rattle.std.proofs.Common.{◌≡◌, ℕ, ◌-◌, ◌<◌, ◌≤◌, length, get_or}
use Rattle.lane_copy.proofs.lanes.is_zero.Given as goal

-- the bytes below `done` are 0
abbrev pub invariant-loop-done : goal.invariant-loop-done
invariant-loop-done l = record {
  within : l.done ≤ length l.line;
  zeros : (j : ℕ) → j < l.done → get_or l.line j 0 ≡ 0;
}

abbrev pub decreases-loop-done : goal.decreases-loop-done
decreases-loop-done l = length l.line - l.done
