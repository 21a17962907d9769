use Rattle.std.proofs.Common.{take}
use Rattle.plat_core.specs.Core.{begun_core}
use Rattle.plat_core.specs.Outcome.{HasFollowed}
use Rattle.plat_core.proofs.schedule.run_blocking_schedule.Given as goal

abbrev pub invariant-loop-number : goal.invariant-loop-number
invariant-loop-number l = HasFollowed (begun_core l.plan) (take l.number-index l.schedule) l.core
