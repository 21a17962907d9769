use Rattle.flow_model.proofs.WorkedLogs.{response_not_exclusive}
use Rattle.flow_model.proofs.worked.second_response_is_not_exclusive.Goals as goal

pub returns : goal.returns
returns c = response_not_exclusive
