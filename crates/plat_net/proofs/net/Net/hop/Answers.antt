use Rattle.plat_net.proofs.CallLemmas.{hop_read}
use Rattle.plat_net.proofs.net.Net.hop.Goals as goal

pub returns : goal.returns
returns g c = hop_read c.self.inside.plan c.args.self.now c.self.inside.hops.items c.args.number c.index.result.now c.self.invariant.5 c.self.view_is c.requires c.index.ensures
