use Rattle.tlm_model.proofs.WorkedRuns.{hasty_is_not_right}
use Rattle.tlm_model.proofs.worked.early_entry_is_not_right.Goals as goal

pub returns : goal.returns
returns c = hasty_is_not_right
