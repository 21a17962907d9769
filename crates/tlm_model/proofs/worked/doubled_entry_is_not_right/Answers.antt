use Rattle.tlm_model.proofs.WorkedRuns.{doubled_is_not_right}
use Rattle.tlm_model.proofs.worked.doubled_entry_is_not_right.Goals as goal

pub returns : goal.returns
returns c = doubled_is_not_right
