use Rattle.std.proofs.Common.{◌≡◌, ◌-◌, ◌+◌, suc, arith, sym, ◌∙◌}
use Rattle.route_plan.proofs.LatencyLemmas.{latency_taken}
use Rattle.route_plan.proofs.routes.Routes.latency.Goals as goal

pub loop-visited-preserved : goal.loop-visited-preserved
loop-visited-preserved c =
    let k = 9 - (c.loop-visited._visited + 1) in
    let left : 9 - c.loop-visited._visited ≡ suc k = omega (arith, c.loop-visited-test.true) in
    c.loop-visited.invariant ∙ latency_taken k (9 - c.loop-visited._visited) c.args.self.now c.loop-visited.step c.in-Some.next left (sym c.in-Some.ensures)
