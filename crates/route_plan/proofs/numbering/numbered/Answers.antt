use Rattle.platform_model.specs.Windows.{window_at}
use Rattle.route_plan.proofs.NumberLemmas.{numbered_more_at}
use Rattle.route_plan.proofs.numbering.numbered.Goals as goal

pub loop-index-preserved : goal.loop-index-preserved
loop-index-preserved c =
    numbered_more_at (λ w. window_at w.0 w.1) c.args.rows.now c.loop-index.windows.items c.push.new.self.items c.loop-index.index _ c.window.result c.loop-index-test.true
    c.window.ensures c.in_ok-push.ensures.items c.loop-index.invariant
