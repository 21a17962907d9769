use Rattle.std.proofs.Common.{◌≡◌, length, take}
use Rattle.initiator_run.proofs.run.copied_refusals.Given as goal

abbrev pub invariant-loop-at : goal.invariant-loop-at
invariant-loop-at l = record {
  items : l.copy.items ≡ take l.at l.refused.items;
  room : l.copy.room ≡ length l.refused.items;
}
