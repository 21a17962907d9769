use Rattle.tlm_model.proofs.WorkedRuns.{swapped_is_not_right}
use Rattle.tlm_model.proofs.worked.swapped_entries_are_not_right.Goals as goal

pub returns : goal.returns
returns c = swapped_is_not_right
