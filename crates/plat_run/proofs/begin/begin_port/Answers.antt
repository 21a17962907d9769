use Rattle.std.proofs.Common.{◌≡◌, ◌<◌, length, subst, ◌∙◌}
use Rattle.std.specs.Prelude.{IsSomeAnd, slice_get}
use Rattle.tlm_model.specs.declared.platform.InitiatorRow.{InitiatorRow}
use Rattle.tlm_model.specs.declared.platform.Style.TheVariants.{FourPhase}
use Rattle.tlm_model.specs.Plan.{Plan}
use Rattle.route_plan.specs.Valid.{IsValid}
use Rattle.plat_run.proofs.PortLemmas.{port_begun}
use Rattle.plat_run.proofs.begin.begin_port.Goals as goal

pub new-requires : goal.new-requires
new-requires g c =
    let n = g.N.Naming in
    let plan = c.plan.ensures in
    record {
      fresh = port_begun n.table n.tokens n.frame.world (subst IsValid (plan.plan ∙ plan.world) c.platform.ensures.valid) c.args.number c.args.start
          (subst (λ (p : Plan). c.args.number < length p.platform.initiators) plan.world c.requires.number)
          (subst (λ (p : Plan). IsSomeAnd (slice_get p.platform.initiators c.args.number) (λ (row : InitiatorRow). row.style ≡ FourPhase)) plan.world c.requires.style) c.requires.start;
    }
