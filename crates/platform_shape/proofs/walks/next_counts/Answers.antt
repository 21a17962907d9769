use Rattle.std.proofs.Common.{◌+◌}
use Rattle.tlm_model.specs.declared.platform.Target.TheVariants.{Router}
use Rattle.platform_shape.specs.Walks.{few, walks_of}
use Rattle.platform_shape.proofs.WalkLemmas.{values_more}
use Rattle.platform_shape.proofs.walks.next_counts.Goals as goal

pub loop-router-preserved : goal.loop-router-preserved
loop-router-preserved c =
    values_more (λ r. few (walks_of c.args.walks (c.args.windows + 1) c.args.platform.now (Router r))) c.loop-router.next.items c.push.new.self.items c.loop-router.router c.from_router.result
    c.from_router.ensures c.in_ok-push.ensures.items c.loop-router.invariant
