use Rattle.tlm_model.proofs.WorkedRuns.{no_quantum_is_worked}
use Rattle.tlm_model.proofs.worked.syncs_without_a_quantum.Goals as goal

pub returns : goal.returns
returns c = no_quantum_is_worked
