use Rattle.node_hops.proofs.Adds.{take_adds}
use Rattle.node_hops.proofs.laws.takes_add.Goals as goal

pub returns : goal.returns
returns c = take_adds
