use Rattle.tlm_model.proofs.WorkedRuns.{readback_is_worked}
use Rattle.tlm_model.proofs.worked.reads_back.Goals as goal

pub returns : goal.returns
returns c = readback_is_worked
