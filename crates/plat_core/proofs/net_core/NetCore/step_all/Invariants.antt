use Rattle.plat_core.specs.NetOutcome.{GoesOnFrom}
use Rattle.plat_core.proofs.net_core.NetCore.step_all.Given as goal

abbrev pub invariant-loop-actor : goal.invariant-loop-actor
invariant-loop-actor g l = GoesOnFrom l.initial.self l.self
