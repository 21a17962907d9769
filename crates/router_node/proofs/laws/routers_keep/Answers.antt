use Rattle.router_node.proofs.Holds.{router_more}
use Rattle.router_node.proofs.laws.routers_keep.Goals as goal

pub returns : goal.returns
returns c = λ frame tokens r known more w is. router_more frame tokens known more w r is
