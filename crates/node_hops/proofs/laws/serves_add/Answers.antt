use Rattle.node_hops.proofs.Adds.{serve_adds}
use Rattle.node_hops.proofs.laws.serves_add.Goals as goal

pub returns : goal.returns
returns c = serve_adds
