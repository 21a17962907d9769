use Rattle.tlm_model.proofs.WorkedRuns.{wrong_byte_is_not_right}
use Rattle.tlm_model.proofs.worked.wrong_byte_is_not_right.Goals as goal

pub returns : goal.returns
returns c = wrong_byte_is_not_right
