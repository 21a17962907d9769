use Rattle.std.proofs.Common.{refl}
use Rattle.route_plan.specs.Routes.{window_ends}
use Rattle.route_plan.proofs.NumberLemmas.{numbered_more_at}
use Rattle.route_plan.proofs.ends.window_ends.Goals as goal

pub loop-index-preserved : goal.loop-index-preserved
loop-index-preserved c =
    numbered_more_at (window_ends c.args.router) c.args.windows.now c.loop-index.ends.items c.push.new.self.items c.loop-index.index _ _ c.loop-index-test.true
    refl c.in_ok-push.ensures.items c.loop-index.invariant
