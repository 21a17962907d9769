use Rattle.flow_model.proofs.WorkedLogs.{turns_pass}
use Rattle.flow_model.proofs.worked.transactions_take_turns.Goals as goal

pub returns : goal.returns
returns c = turns_pass
