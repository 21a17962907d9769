use Rattle.std.proofs.Common.{◌≡◌, ℕ, ◌%◌, ◌-◌, ◌<◌, ◌≤◌, length, get_or}
use Rattle.lane_copy.proofs.lanes.expand.Given as goal

-- the bytes below `done` are the enables over and over, and what follows begins with the first
abbrev pub invariant-loop-done : goal.invariant-loop-done
invariant-loop-done l = record {
  within : l.done ≤ length l.out;
  some : l.done < length l.out → 0 < l.done;
  first : l.done < length l.out → l.done % length l.enables ≡ 0;
  written : (j : ℕ) → j < l.done → get_or l.out j 0 ≡ get_or l.enables (j % length l.enables) 0;
}

abbrev pub decreases-loop-done : goal.decreases-loop-done
decreases-loop-done l = length l.out - l.done
