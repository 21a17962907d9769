use Rattle.std.proofs.Common.{◌≡◌, length}
use Rattle.trace_print.specs.Hops.{AreEach, AreInitiatorWords}
use Rattle.trace_print.proofs.names.words_of_initiators.Given as goal

abbrev pub invariant-loop-initiator : goal.invariant-loop-initiator
invariant-loop-initiator l = record {
  named : AreEach (AreInitiatorWords l.platform) l.rows.items;
  count : length l.rows.items ≡ l.initiator;
}
