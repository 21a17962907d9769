use Rattle.std.proofs.Common.{◌≡◌, ◌+◌, ◌-◌}
use Rattle.plat_core.specs.Core.{progress}
use Rattle.plat_core.proofs.schedule.run_in_order.Given as goal

abbrev pub invariant-loop-core : goal.invariant-loop-core
invariant-loop-core g l = l.core.plan ≡ l.plan

abbrev pub decreases-loop-core : goal.decreases-loop-core
decreases-loop-core g l = 20000000 + 1 - progress l.core
