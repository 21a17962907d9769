use Rattle.platform_shape.proofs.WalkLemmas.{few_all}
use Rattle.platform_shape.proofs.walks.from_router.Goals as goal

pub returns : goal.returns
returns c =
    few_all c.args.walks c.args.windows c.args.platform.now c.args.router c.args.row.now c.loop-window.count c.loop-window.window-index c.as_slice-leading.result.now c.requires.row c.as_slice-leading.ensures c.loop-window-test.false c.loop-window.invariant
