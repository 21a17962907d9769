use Rattle.std.proofs.Common.{◌≡◌, ◌≤◌, ap, ◌∙◌, subst, length, slice_get}
use Rattle.tlm_model.specs.Plan as model
use Rattle.tlm_model.specs.Route.{Walk}
use Rattle.route_plan.specs.Plans.{walk_at}
use Rattle.route_plan.specs.Routes.{bound_walk}
use Rattle.route_plan.proofs.PlanLemmas.{walk_of_row}
use Rattle.route_plan.proofs.plans.Plan.hops.Goals as goal

pub returns-clause-hop : goal.returns-clause-hop
returns-clause-hop c =
    let plan : model.Plan = record { platform = c.self.inside.routes; scripts = c.self.inside.scripts } in
    let same : bound_walk c.self.inside.routes c.args.initiator c.args.address ≡ walk_at c.args.self.now c.args.initiator c.args.address =
    walk_of_row plan c.args.initiator c.args.address c.self.invariant.valid.scripts ∙ ap (λ plan. walk_at plan c.args.initiator c.args.address) c.self.view_is in
    c.hop.ensures.hop ∙ ap (λ (w : Walk). slice_get w.hops c.args.index) same

pub returns-clause-few : goal.returns-clause-few
returns-clause-few c =
    let plan : model.Plan = record { platform = c.self.inside.routes; scripts = c.self.inside.scripts } in
    let same : bound_walk c.self.inside.routes c.args.initiator c.args.address ≡ walk_at c.args.self.now c.args.initiator c.args.address =
    walk_of_row plan c.args.initiator c.args.address c.self.invariant.valid.scripts ∙ ap (λ plan. walk_at plan c.args.initiator c.args.address) c.self.view_is in
    subst (λ (w : Walk). length w.hops ≤ 9) same c.hop.ensures.few
