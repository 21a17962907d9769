use Rattle.flow_model.proofs.WorkedLogs.{turns_by_rules}
use Rattle.flow_model.proofs.worked.turns_keep_rules.Goals as goal

pub returns-clause-rules : goal.returns-clause-rules
returns-clause-rules c = turns_by_rules
