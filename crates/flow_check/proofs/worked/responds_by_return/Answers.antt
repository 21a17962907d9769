use Rattle.flow_check.proofs.WorkedHistories.{answering_works}
use Rattle.flow_check.proofs.worked.responds_by_return.Goals as goal

pub returns : goal.returns
returns c = answering_works
