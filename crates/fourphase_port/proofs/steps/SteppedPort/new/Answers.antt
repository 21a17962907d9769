use Rattle.std.proofs.Common.{ap, ◌∙◌, subst}
use Rattle.std.specs.Prelude.{slice_get}
use Rattle.tlm_model.specs.Plan.{initiators_of}
use Rattle.route_plan.specs.Valid.{IsValid}
use Rattle.fourphase_port.proofs.Starting.{begun_as}
use Rattle.fourphase_port.proofs.steps.SteppedPort.new.Goals as goal

pub returns-clause-port : goal.returns-clause-port
returns-clause-port g c = λ note f. (
    let port = begun_as g.N.Naming.table g.N.Naming.tokens g.N.Naming.frame c.args.engine.initiator c.args.engine c.args.payload note c.args.wallet f (subst IsValid (c.plan.ensures.plan ∙ c.plan.ensures.world) c.platform.ensures.valid) c.room_for-room.result c.in_ok-state.state c.in_ok-state.ensures
    (c.room_for-room.ensures f.initiator (ap (λ (k : _). slice_get (initiators_of g.N.Naming.frame.world) k) c.initiator.ensures ∙ f.is)) in
    record { note_of = port.note_of; below = port.below; stands = port }
    )
