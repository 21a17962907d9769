use Rattle.std.proofs.Common.{arith}
use Rattle.plat_core.proofs.ProgressLemmas.{round_progresses}
use Rattle.plat_core.proofs.steps.Core.go_round.Goals as goal

pub returns-clause-progress : goal.returns-clause-progress
returns-clause-progress g c =
    round_progresses c.args.self.now c.loop-initiator.self c.loop-initiator.initiator c.initiators-initiator-end.ensures.rounds
    (omega (arith, c.initiators-initiator-end.ensures.flags, c.loop-initiator-test.false)) c.loop-initiator.invariant
