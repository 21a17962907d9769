use Rattle.std.proofs.Common.{refl, true}
use Rattle.node_hops.proofs.Adds.{entered}
use Rattle.node_hops.proofs.laws.enters_add.Goals as goal

pub returns : goal.returns
returns c = λ frame number before after content note back position e. entered frame number before after true content note back position e refl
