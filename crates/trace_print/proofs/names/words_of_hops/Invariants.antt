use Rattle.std.proofs.Common.{◌≡◌, length}
use Rattle.trace_print.specs.Hops.{AreEach, IsHopWord}
use Rattle.trace_print.proofs.names.words_of_hops.Given as goal

abbrev pub invariant-loop-hop : goal.invariant-loop-hop
invariant-loop-hop l = record {
  named : AreEach (IsHopWord l.plan.platform) l.rows.items;
  count : length l.rows.items ≡ l.hop;
}
