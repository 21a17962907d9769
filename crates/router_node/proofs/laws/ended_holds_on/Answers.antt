use Rattle.router_node.proofs.Stays.{holds_on}
use Rattle.router_node.proofs.laws.ended_holds_on.Goals as goal

pub returns : goal.returns
returns c = λ frame tokens known back h at new w e. holds_on frame tokens known back w h at new e
