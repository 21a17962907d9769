use Rattle.tlm_model.proofs.WorkedRuns.{empty_is_worked}
use Rattle.tlm_model.proofs.worked.runs_an_empty_script.Goals as goal

pub returns : goal.returns
returns c = empty_is_worked
