use Rattle.node_hops.proofs.Adds.{forward_adds}
use Rattle.node_hops.proofs.laws.forwards_add.Goals as goal

pub returns : goal.returns
returns c = forward_adds
