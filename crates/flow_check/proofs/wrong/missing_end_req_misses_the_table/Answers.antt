use Rattle.flow_check.proofs.WrongHistories.{request_unended_wrong}
use Rattle.flow_check.proofs.wrong.missing_end_req_misses_the_table.Goals as goal

pub returns : goal.returns
returns c = request_unended_wrong
