use Rattle.std.proofs.Common.{ap, ◌∙◌}
use Rattle.tlm_model.specs.Plan as model
use Rattle.tlm_model.specs.Route.{Walk}
use Rattle.route_plan.specs.Plans.{walk_at}
use Rattle.route_plan.proofs.PlanLemmas.{walk_of_row}
use Rattle.route_plan.proofs.plans.Plan.latency.Goals as goal

pub returns : goal.returns
returns c =
    let plan : model.Plan = record { platform = c.self.inside.routes; scripts = c.self.inside.scripts } in
    c.latency.ensures ∙ ap (λ (w : Walk). w.latency) (walk_of_row plan c.args.initiator c.args.address c.self.invariant.valid.scripts) ∙ ap (λ plan. (walk_at plan c.args.initiator c.args.address).latency) c.self.view_is
