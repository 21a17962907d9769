use Rattle.std.proofs.Common.{◌≡◌}
use Rattle.initiator_run.specs.Board.{HasGoneOn}
use Rattle.initiator_run.specs.Moves.{HasAdvanced, steps_left}
use Rattle.initiator_run.specs.Steps.{HasMoved}
use Rattle.initiator_run.proofs.run.InitiatorRun.advance.Given as goal

abbrev pub invariant-loop-self : goal.invariant-loop-self
invariant-loop-self g l = HasAdvanced l.plan l.initial.self l.self × HasGoneOn l.initial.self l.self l.initial.rounds l.rounds × (l.payload.room ≡ 4096) × HasMoved l.plan l.initial.self l.self

abbrev pub decreases-loop-self : goal.decreases-loop-self
decreases-loop-self g l = steps_left l.self.engine
