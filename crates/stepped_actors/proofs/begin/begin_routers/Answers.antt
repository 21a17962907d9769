use Rattle.std.proofs.Common.{◌+◌, length, arith}
use Rattle.plat_build.proofs.StartLemmas.{counted_more}
use Rattle.stepped_actors.proofs.Begun.{begun_more, router_begun}
use Rattle.stepped_actors.specs.declared.actor.SteppedActor.TheVariants.{Router}
use Rattle.stepped_actors.proofs.begin.begin_routers.Goals as goal

pub loop-router-preserved : goal.loop-router-preserved
loop-router-preserved g c =
    let n = g.N.Naming in
    let before = c.loop-router in
    let pushed = c.in_ok-push.ensures.items in
    let here = c.args.net.now in
    let count = before.invariant.count in
    let made = c.in_ok-node.ensures in
    record {
      begun = begun_more n.table n.tokens n.frame (length here.platform.initiators + before.router) before.actors.items c.push.new.self.items (Router c.new-in-loop-router.result) before.invariant.begun count
          (router_begun n.table n.tokens n.frame here c.plan.ensures.world before.router c.new-in-loop-router.result c.in_ok-node.node made.is made.router_is c.new-in-loop-router.ensures.node c.new-in-loop-router.ensures.due) pushed;
      count = omega (arith, counted_more before.actors.items c.push.new.self.items _ (length here.platform.initiators + before.router) count pushed);
    }
