use Rattle.flow_model.proofs.WorkedLogs.{slow_by_rules}
use Rattle.flow_model.proofs.worked.slow_response_is_waited_for.Goals as goal

pub returns-clause-rules : goal.returns-clause-rules
returns-clause-rules c = slow_by_rules
