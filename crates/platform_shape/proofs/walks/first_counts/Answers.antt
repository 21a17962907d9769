use Rattle.tlm_model.specs.declared.platform.Target.TheVariants.{Router}
use Rattle.platform_shape.specs.Walks.{few, walks_of}
use Rattle.platform_shape.proofs.WalkLemmas.{count_zero, values_more}
use Rattle.platform_shape.proofs.walks.first_counts.Goals as goal

pub loop-router-preserved : goal.loop-router-preserved
loop-router-preserved c =
    values_more (λ r. few (walks_of c.args.walks 0 c.args.platform.now (Router r))) c.loop-router.counts.items c.push.new.self.items c.loop-router.router c.at_router.result
    (count_zero c.args.walks c.args.platform.now (Router c.loop-router.router) c.at_router.result c.at_router.ensures) c.in_ok-push.ensures.items c.loop-router.invariant
