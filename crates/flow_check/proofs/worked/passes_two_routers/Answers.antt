use Rattle.flow_check.proofs.WorkedHistories.{routed_works}
use Rattle.flow_check.proofs.worked.passes_two_routers.Goals as goal

pub returns : goal.returns
returns c = routed_works
