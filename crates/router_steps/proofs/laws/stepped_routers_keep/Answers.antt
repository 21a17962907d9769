use Rattle.router_steps.proofs.Dues.{stepped_more}
use Rattle.router_steps.proofs.laws.stepped_routers_keep.Goals as goal

pub returns : goal.returns
returns c = λ frame tokens s known more w is. stepped_more frame tokens known more w s is
