use Rattle.std.proofs.Common.{◌≤◌, length, subst}
use Rattle.tlm_model.specs.declared.platform.Platform.{Platform}
use Rattle.route_plan.specs.Routes.{bound_walk}
use Rattle.route_plan.proofs.StepLemmas.{few_hops_at}
use Rattle.route_plan.proofs.routes.Routes.first_step.Goals as goal

pub returns-clause-few : goal.returns-clause-few
returns-clause-few c =
    subst (λ (p : Platform). length (bound_walk p c.args.initiator c.args.address).hops ≤ 9) c.self.view_is (few_hops_at c.self.inside.platform c.args.initiator c.args.address c.self.invariant.shape)
