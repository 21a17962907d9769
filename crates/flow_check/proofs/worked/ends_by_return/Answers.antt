use Rattle.flow_check.proofs.WorkedHistories.{ending_works}
use Rattle.flow_check.proofs.worked.ends_by_return.Goals as goal

pub returns : goal.returns
returns c = ending_works
