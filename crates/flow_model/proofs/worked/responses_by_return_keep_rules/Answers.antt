use Rattle.flow_model.proofs.WorkedLogs.{returned_by_rules}
use Rattle.flow_model.proofs.worked.responses_by_return_keep_rules.Goals as goal

pub returns : goal.returns
returns c = returned_by_rules
