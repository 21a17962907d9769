use Rattle.node_hops.proofs.Adds.{call_adds}
use Rattle.node_hops.proofs.laws.calls_add.Goals as goal

pub returns : goal.returns
returns c = call_adds
