use Rattle.flow_check.proofs.WrongHistories.{unended_kept, unended_wrong}
use Rattle.flow_check.proofs.wrong.unended_access_is_not_whole.Goals as goal

pub returns-clause-sequence : goal.returns-clause-sequence
returns-clause-sequence c = unended_wrong

pub returns-clause-payload : goal.returns-clause-payload
returns-clause-payload c = unended_kept
