use Rattle.node_hops.proofs.Adds.{begin_adds}
use Rattle.node_hops.proofs.laws.begins_add.Goals as goal

pub returns : goal.returns
returns c = begin_adds
