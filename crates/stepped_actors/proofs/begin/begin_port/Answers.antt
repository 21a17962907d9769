use Rattle.std.proofs.Common.{◌≡◌, ◌<◌, length, ap, subst, ◌∙◌}
use Rattle.std.specs.Prelude.{IsSomeAnd, slice_get}
use Rattle.tlm_model.specs.declared.platform.InitiatorRow.{InitiatorRow}
use Rattle.tlm_model.specs.declared.platform.Style.TheVariants.{FourPhase}
use Rattle.tlm_model.specs.Plan.{Plan}
use Rattle.route_plan.specs.Valid.{IsValid}
use Rattle.port_moves.specs.State.{StateView}
use Rattle.stepped_actors.proofs.Begun.{port_begun}
use Rattle.stepped_actors.proofs.begin.begin_port.Goals as goal

pub returns-clause-actor : goal.returns-clause-actor
returns-clause-actor g c =
    let n = g.N.Naming in
    let plan = c.plan.ensures in
    let made = c.in_ok-port.ensures in
    port_begun n.table n.tokens n.frame c.args.number (subst IsValid (plan.plan ∙ plan.world) c.platform.ensures.valid) c.args.start
    (subst (λ (p : Plan). c.args.number < length p.platform.initiators) plan.world c.requires.number)
    (subst (λ (p : Plan). IsSomeAnd (slice_get p.platform.initiators c.args.number) (λ (row : InitiatorRow). row.style ≡ FourPhase)) plan.world c.requires.style) c.requires.start
    c.in_ok-port.port made.port (ap (λ (s : StateView). s.port.engine.initiator) made.state)
