use Rattle.std.proofs.Common.{arith}
use Rattle.plat_core.specs.Outcome.{Steps}
use Rattle.plat_core.proofs.schedule.take_number.Goals as goal

pub returns-then-number-actors : goal.returns-then-number-actors
returns-then-number-actors c = Steps (omega (arith, c.if-number-actors.true, c.actors.ensures)) c.step.result c.step.ensures
