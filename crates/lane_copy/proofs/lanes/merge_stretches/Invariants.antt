use Rattle.std.proofs.Common.{◌≡◌, ℕ, ◌<◌, ◌≤◌, ◌-◌, ◌%◌, length, get_or}
use Rattle.lane_copy.specs.Lanes.{merged_byte}
use Rattle.lane_copy.proofs.lanes.merge_stretches.Given as goal

-- the bytes below `done` are those of the copy, and those from there on the old ones, of which the first enable governs the first
abbrev pub invariant-loop-done : goal.invariant-loop-done
invariant-loop-done l = record {
  within : l.done ≤ length l.src;
  first : l.done < length l.src → l.done % length l.enables ≡ 0;
  copied : (j : ℕ) → j < l.done → get_or l.dst j 0 ≡ merged_byte l.initial.dst l.src l.enables j;
  rest : (j : ℕ) → l.done ≤ j → get_or l.dst j 0 ≡ get_or l.initial.dst j 0;
}

abbrev pub decreases-loop-done : goal.decreases-loop-done
decreases-loop-done l = length l.src - l.done
