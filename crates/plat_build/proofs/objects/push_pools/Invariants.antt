use Rattle.std.proofs.Common.{◌≡◌, ◌++◌}
use Rattle.plat_net.specs.Objects.{pools_of}
use Rattle.plat_build.proofs.objects.push_pools.Given as goal

abbrev pub invariant-loop-number : goal.invariant-loop-number
invariant-loop-number l = l.objects.items ≡ l.initial.objects.items ++ pools_of l.plan.platform l.number
