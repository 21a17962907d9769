use Rattle.flow_check.proofs.WorkedHistories.{refused_works}
use Rattle.flow_check.proofs.worked.router_refuses.Goals as goal

pub returns : goal.returns
returns c = refused_works
