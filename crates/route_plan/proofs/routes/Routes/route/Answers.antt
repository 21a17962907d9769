use Rattle.std.proofs.Common.{sym, ◌∙◌}
use Rattle.route_plan.proofs.StepLemmas.{route_taken}
use Rattle.route_plan.proofs.routes.Routes.route.Goals as goal

pub loop-visited-preserved : goal.loop-visited-preserved
loop-visited-preserved c =
    route_taken c.args.self.now c.args.initiator c.args.address c.loop-visited._visited c.loop-visited.step c.in_ok-step.step c.loop-visited-test.true (sym c.next_step.ensures ∙ c.in_ok-step.was) c.loop-visited.invariant
