use Rattle.std.proofs.Common.{◌≡◌, ◌-◌, ◌≤◌}
use Rattle.route_plan.specs.Valid.{hop_count}
use Rattle.node_hops.specs.Hops.{hops_below}
use Rattle.node_hops.proofs.hops.hops_to.Given as goal

abbrev pub invariant-hops : goal.invariant-hops
invariant-hops l = record {
  hops_are : l.hops.items ≡ hops_below l.plan.platform l.to l.hop;
  below : l.hop ≤ hop_count l.plan.platform;
}

abbrev pub decreases-hops : goal.decreases-hops
decreases-hops l = hop_count l.plan.platform - l.hop
