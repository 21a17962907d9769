use Rattle.tlm_model.proofs.WorkedRuns.{sum_is_worked}
use Rattle.tlm_model.proofs.worked.adds_and_copies.Goals as goal

pub returns : goal.returns
returns c = sum_is_worked
