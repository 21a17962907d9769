use Rattle.tlm_model.proofs.WorkedRuns.{cut_short_is_not_right}
use Rattle.tlm_model.proofs.worked.missing_entry_is_not_right.Goals as goal

pub returns : goal.returns
returns c = cut_short_is_not_right
