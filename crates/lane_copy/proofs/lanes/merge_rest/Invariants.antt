use Rattle.std.proofs.Common.{◌≡◌, ℕ, ◌<◌, ◌≤◌, get_or}
use Rattle.lane_copy.specs.Lanes.{chosen}
use Rattle.lane_copy.proofs.lanes.merge_rest.Given as goal

-- the bytes below k are chosen, and those from k on the old ones
abbrev pub invariant-loop-k : goal.invariant-loop-k
invariant-loop-k l = record {
  copied : (j : ℕ) → j < l.k → get_or l.dst j 0 ≡ chosen (get_or l.enables j 0) (get_or l.src j 0) (get_or l.initial.dst j 0);
  rest : (j : ℕ) → l.k ≤ j → get_or l.dst j 0 ≡ get_or l.initial.dst j 0;
}
