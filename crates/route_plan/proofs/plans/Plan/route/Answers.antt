use Rattle.std.proofs.Common.{ap, ◌∙◌}
use Rattle.tlm_model.specs.Plan as model
use Rattle.route_plan.specs.Plans.{walk_at}
use Rattle.route_plan.specs.Routes.{route_by}
use Rattle.route_plan.proofs.PlanLemmas.{walk_of_row}
use Rattle.route_plan.proofs.plans.Plan.route.Goals as goal

pub returns : goal.returns
returns c =
    let plan : model.Plan = record { platform = c.self.inside.routes; scripts = c.self.inside.scripts } in
    c.route.ensures ∙ ap route_by (walk_of_row plan c.args.initiator c.args.address c.self.invariant.valid.scripts) ∙ ap (λ plan. route_by (walk_at plan c.args.initiator c.args.address)) c.self.view_is
