use Rattle.std.proofs.Common.{◌-◌}
use Rattle.plat_core.specs.Core.{GoesOn, progress}
use Rattle.plat_core.proofs.ProgressLemmas.{Progresses}
use Rattle.plat_core.proofs.steps.Core.go_on.Given as goal

abbrev pub invariant-loop : goal.invariant-loop
invariant-loop g l = GoesOn l.initial.self l.self × Progresses l.initial.self l.self

abbrev pub decreases-loop : goal.decreases-loop
decreases-loop g l = 20000000 - progress l.self
