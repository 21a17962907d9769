use Rattle.std.proofs.Common.{ℕ, ap, ◌∙◌, subst}
use Rattle.std.specs.Prelude.{slice_get}
use Rattle.tlm_model.specs.Plan.{initiators_of}
use Rattle.route_plan.specs.Valid.{IsValid}
use Rattle.fourphase_port.proofs.Starting.{begun_by, within}
use Rattle.fourphase_port.proofs.port.Port.new.Goals as goal

pub room_for-room-requires : goal.room_for-room-requires
room_for-room-requires g c = within g.N.Naming.table g.N.Naming.tokens g.N.Naming.frame c.args.engine.initiator c.args.engine c.args.payload c.args.note c.args.wallet c.requires.fresh (subst IsValid (c.plan.ensures.plan ∙ c.plan.ensures.world) c.platform.ensures.valid) c.initiator.result c.initiator.ensures

pub invariant_of-result : goal.invariant_of-result
invariant_of-result g c =
    let f = c.requires.fresh in
    begun_by g.N.Naming.table g.N.Naming.tokens g.N.Naming.frame c.args.engine.initiator c.args.engine c.args.payload c.args.note c.args.wallet c.requires.fresh (subst IsValid (c.plan.ensures.plan ∙ c.plan.ensures.world) c.platform.ensures.valid) c.room_for-room.result c.in_ok-state.state c.in_ok-state.ensures
    (c.room_for-room.ensures f.initiator (ap (λ (k : ℕ). slice_get (initiators_of g.N.Naming.frame.world) k) c.initiator.ensures ∙ f.is))
