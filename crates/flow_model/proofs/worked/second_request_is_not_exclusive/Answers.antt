use Rattle.flow_model.proofs.WorkedLogs.{request_not_exclusive}
use Rattle.flow_model.proofs.worked.second_request_is_not_exclusive.Goals as goal

pub returns : goal.returns
returns c = request_not_exclusive
