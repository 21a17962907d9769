use Rattle.plat_net.proofs.CallLemmas.{memory_read}
use Rattle.plat_net.proofs.net.Net.memory.Goals as goal

pub returns : goal.returns
returns g c = memory_read c.self.inside.plan c.args.self.now c.self.inside.memories.items c.args.number c.index.result.now c.self.invariant.4 c.self.view_is c.requires c.index.ensures
