use Rattle.std.proofs.Common.{◌≡◌, ◌+◌, length}
use Rattle.tlm_model.specs.Route.{window_hop}
use Rattle.plat_net.specs.Net.{AreHopsTo}
use Rattle.plat_build.proofs.hops.make_hops.Given as goal

abbrev pub invariant-loop-row : goal.invariant-loop-row
invariant-loop-row g l = record {
  first : length l.hops.items ≡ l.row-index;
  next : l.supplies ≡ length l.plan.platform.memories + length l.hops.items;
  hops_are : AreHopsTo l.plan.platform (length l.hops.items) l.hops.items;
}

abbrev pub invariant-loop-router : goal.invariant-loop-router
invariant-loop-router g l = record {
  first : length l.hops.items ≡ window_hop l.plan.platform l.router 0;
  next : l.supplies ≡ length l.plan.platform.memories + length l.hops.items;
  hops_are : AreHopsTo l.plan.platform (length l.hops.items) l.hops.items;
}
