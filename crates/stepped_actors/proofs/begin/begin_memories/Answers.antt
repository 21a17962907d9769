use Rattle.std.proofs.Common.{◌+◌, length, arith}
use Rattle.plat_build.proofs.StartLemmas.{counted_more}
use Rattle.stepped_actors.proofs.Begun.{begun_more, memory_begun}
use Rattle.stepped_actors.specs.declared.actor.SteppedActor.TheVariants.{Memory}
use Rattle.stepped_actors.proofs.begin.begin_memories.Goals as goal

pub loop-memory-preserved : goal.loop-memory-preserved
loop-memory-preserved g c =
    let n = g.N.Naming in
    let before = c.loop-memory in
    let pushed = c.in_ok-push.ensures.items in
    let here = c.args.net.now in
    let count = before.invariant.count in
    let made = c.in_ok-node.ensures in
    let k = length here.platform.initiators + length here.platform.routers + before.memory in
    record {
      begun = begun_more n.table n.tokens n.frame k before.actors.items c.push.new.self.items (Memory c.in_ok-node.node) before.invariant.begun count
          (memory_begun n.table n.tokens n.frame here c.plan.ensures.world before.memory c.in_ok-node.node made.target made.memory_is) pushed;
      count = omega (arith, counted_more before.actors.items c.push.new.self.items _ k count pushed);
    }
