use Rattle.plat_core.proofs.ProgressLemmas.{AreStuck}
use Rattle.plat_core.proofs.steps.Core.go_round.Given as goal

abbrev pub invariant-loop-initiator : goal.invariant-loop-initiator
invariant-loop-initiator g l = AreStuck l.initial.self l.self l.initiator
