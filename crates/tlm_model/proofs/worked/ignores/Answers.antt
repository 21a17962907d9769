use Rattle.tlm_model.proofs.WorkedRuns.{ignore_is_worked}
use Rattle.tlm_model.proofs.worked.ignores.Goals as goal

pub returns : goal.returns
returns c = ignore_is_worked
