use Rattle.tlm_model.specs.Route.{window_hop}
use Rattle.platform_shape.proofs.WalkLemmas.{values_more}
use Rattle.route_plan.proofs.numbering.first_hops.Goals as goal

pub loop-router-preserved : goal.loop-router-preserved
loop-router-preserved c =
    values_more (λ r. window_hop c.args.platform.now r 0) c.loop-router.hops.items c.push.new.self.items c.loop-router.router c.first_hop.result c.first_hop.ensures c.in_ok-push.ensures.items c.loop-router.invariant
