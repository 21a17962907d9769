use Rattle.std.proofs.Common.{arith}
use Rattle.plat_core.specs.NetOutcome.{Steps}
use Rattle.plat_core.proofs.net_core.NetCore.take_number.Goals as goal

pub returns-then-number-actors : goal.returns-then-number-actors
returns-then-number-actors g c = Steps (omega (arith, c.if-number-actors.true, c.actors.ensures)) c.step.result c.step.ensures
