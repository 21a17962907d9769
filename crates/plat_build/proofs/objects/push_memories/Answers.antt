use Rattle.tlm_types.specs.declared.words.ObjectNo.TheVariants.{Memory}
use Rattle.plat_net.proofs.ObjectLemmas.{pushed_more}
use Rattle.plat_build.proofs.objects.push_memories.Goals as goal

pub loop-memory-preserved : goal.loop-memory-preserved
loop-memory-preserved c = pushed_more Memory c.args.objects.now.items c.loop-memory.objects.items c.push.new.self.items c.loop-memory.memory c.loop-memory.invariant c.in_ok-push.ensures.items
