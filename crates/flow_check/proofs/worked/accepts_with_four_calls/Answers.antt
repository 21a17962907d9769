use Rattle.flow_check.proofs.WorkedHistories.{accepting_works}
use Rattle.flow_check.proofs.worked.accepts_with_four_calls.Goals as goal

pub returns : goal.returns
returns c = accepting_works
