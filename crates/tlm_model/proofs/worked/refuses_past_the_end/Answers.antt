use Rattle.tlm_model.proofs.WorkedRuns.{past_end_is_worked}
use Rattle.tlm_model.proofs.worked.refuses_past_the_end.Goals as goal

pub returns : goal.returns
returns c = past_end_is_worked
