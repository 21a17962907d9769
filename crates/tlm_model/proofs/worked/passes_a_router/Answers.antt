use Rattle.tlm_model.proofs.WorkedRuns.{routed_is_worked}
use Rattle.tlm_model.proofs.worked.passes_a_router.Goals as goal

pub returns : goal.returns
returns c = routed_is_worked
