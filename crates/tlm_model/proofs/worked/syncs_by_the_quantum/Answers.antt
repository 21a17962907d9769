use Rattle.tlm_model.proofs.WorkedRuns.{quantum_is_worked}
use Rattle.tlm_model.proofs.worked.syncs_by_the_quantum.Goals as goal

pub returns : goal.returns
returns c = quantum_is_worked
