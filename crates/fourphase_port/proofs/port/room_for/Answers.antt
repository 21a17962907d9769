use Rattle.std.proofs.Common.{◌∙◌}
use Rattle.fourphase_port.proofs.Starting.{room_enough}
use Rattle.fourphase_port.proofs.port.room_for.Goals as goal

pub returns : goal.returns
returns g c = room_enough g.N.Naming.frame.world c.plan.result.now c.args.initiator c.script.result.now c.len.result (c.plan.ensures.plan ∙ c.plan.ensures.world) c.script.ensures.script c.len.ensures.counted
