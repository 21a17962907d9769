use Rattle.std.proofs.Common.{take}
use Rattle.plat_core.specs.NetOutcome.{HasFollowedNet}
use Rattle.plat_core.proofs.net_schedule.run_opened.Given as goal

abbrev pub invariant-loop-number : goal.invariant-loop-number
invariant-loop-number g l = HasFollowedNet g.N.Naming.table g.N.Naming.tokens g.N.Naming.frame l.initial.core (take l.number-index l.schedule) l.core
