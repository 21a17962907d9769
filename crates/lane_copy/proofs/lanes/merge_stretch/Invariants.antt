use Rattle.std.proofs.Common.{◌≡◌, ℕ, ◌<◌, ◌≤◌, ◌-◌, length, get_or}
use Rattle.lane_copy.specs.Lanes.{chosen}
use Rattle.lane_copy.proofs.lanes.merge_stretch.Given as goal

-- the bytes below `done` are chosen, and those from there on the old ones
abbrev pub invariant-loop-done : goal.invariant-loop-done
invariant-loop-done l = record {
  within : l.done ≤ length l.src;
  copied : (j : ℕ) → j < l.done → get_or l.dst j 0 ≡ chosen (get_or l.enables j 0) (get_or l.src j 0) (get_or l.initial.dst j 0);
  rest : (j : ℕ) → l.done ≤ j → get_or l.dst j 0 ≡ get_or l.initial.dst j 0;
}

abbrev pub decreases-loop-done : goal.decreases-loop-done
decreases-loop-done l = length l.src - l.done
