use Rattle.tlm_model.proofs.WorkedRuns.{wrong_status_is_not_right}
use Rattle.tlm_model.proofs.worked.wrong_status_is_not_right.Goals as goal

pub returns : goal.returns
returns c = wrong_status_is_not_right
