use Rattle.tlm_model.proofs.WorkedRuns.{operand_answered_is_not_right}
use Rattle.tlm_model.proofs.worked.answered_operand_is_not_right.Goals as goal

pub returns : goal.returns
returns c = operand_answered_is_not_right
