use Rattle.std.proofs.Common.{refl}
use Rattle.tlm_model.specs.declared.platform.Target.TheVariants.{Memory}
use Rattle.platform_shape.proofs.WalkLemmas.{count_none, count_past, count_within}
use Rattle.platform_shape.proofs.walks.from_target.Goals as goal

pub returns-in-Memory : goal.returns-in-Memory
returns-in-Memory c =
    rw c.in-Memory.is (count_none c.args.walks c.args.windows c.args.platform.now (Memory c.in-Memory.memory) c.at_memory.result refl (c.at_memory.ensures c.args.windows))

pub returns-then-router-counts : goal.returns-then-router-counts
returns-then-router-counts c =
    rw c.in-Router.is (count_within c.args.walks c.args.windows c.args.platform.now c.args.counts.now c.in-Router.router 0 c.requires c.if-router-counts.true)

pub returns-else-router-counts : goal.returns-else-router-counts
returns-else-router-counts c =
    rw c.in-Router.is (count_past c.args.walks c.args.windows c.args.platform.now c.args.counts.now c.in-Router.router c.at_router.result c.requires c.if-router-counts.false c.at_router.ensures)
