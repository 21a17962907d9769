use Rattle.std.proofs.Common.{◌≡◌, ◌+◌, length}
use Rattle.plat_net.specs.Net.{ArePoolsTo}
use Rattle.plat_net.specs.Objects.{pools_start}
use Rattle.plat_build.proofs.pools.make_pools.Given as goal

abbrev pub invariant-loop-number : goal.invariant-loop-number
invariant-loop-number g l = record {
  next : l.supplies ≡ pools_start l.plan.platform + length l.pools.items;
  pools_are : ArePoolsTo l.plan.platform l.number l.pools.items;
}
