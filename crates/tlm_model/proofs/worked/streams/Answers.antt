use Rattle.tlm_model.proofs.WorkedRuns.{streaming_is_worked}
use Rattle.tlm_model.proofs.worked.streams.Goals as goal

pub returns : goal.returns
returns c = streaming_is_worked
