use Rattle.router_node.proofs.Stays.{stays}
use Rattle.router_node.proofs.laws.more_is_known.Goals as goal

pub returns : goal.returns
returns c = λ frame tokens known more w. stays frame tokens known more w
