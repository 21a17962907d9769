use Rattle.node_hops.proofs.Adds.{hop_adds}
use Rattle.node_hops.proofs.laws.hops_add.Goals as goal

pub returns : goal.returns
returns c = hop_adds
