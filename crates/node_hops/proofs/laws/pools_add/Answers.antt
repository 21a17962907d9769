use Rattle.node_hops.proofs.Adds.{pool_adds}
use Rattle.node_hops.proofs.laws.pools_add.Goals as goal

pub returns : goal.returns
returns c = pool_adds
