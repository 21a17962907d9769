use Rattle.flow_check.proofs.WrongHistories.{request_doubled_wrong}
use Rattle.flow_check.proofs.wrong.doubled_request_is_not_exclusive.Goals as goal

pub returns : goal.returns
returns c = request_doubled_wrong
