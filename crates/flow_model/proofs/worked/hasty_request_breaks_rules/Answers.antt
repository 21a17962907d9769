use Rattle.flow_model.proofs.WorkedLogs.{hasty_breaks_rules}
use Rattle.flow_model.proofs.worked.hasty_request_breaks_rules.Goals as goal

pub returns : goal.returns
returns c = hasty_breaks_rules
