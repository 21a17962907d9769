use Rattle.tlm_model.proofs.WorkedRuns.{debug_is_worked}
use Rattle.tlm_model.proofs.worked.reads_by_debug_transport.Goals as goal

pub returns : goal.returns
returns c = debug_is_worked
