use Rattle.std.proofs.Common.{◌≡◌, ◌+◌, length}
use Rattle.tlm_model.specs.Route.{window_hop}
use Rattle.plat_net.specs.Net.{AreHopsTo}
use Rattle.plat_build.proofs.hops.push_windows.Given as goal

abbrev pub invariant-loop-window : goal.invariant-loop-window
invariant-loop-window g l = record {
  first : length l.hops.items ≡ window_hop l.plan.platform l.router l.window-index;
  next : l.supplies ≡ length l.plan.platform.memories + length l.hops.items;
  hops_are : AreHopsTo l.plan.platform (length l.hops.items) l.hops.items;
}
