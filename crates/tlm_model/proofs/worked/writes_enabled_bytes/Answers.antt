use Rattle.tlm_model.proofs.WorkedRuns.{enables_is_worked}
use Rattle.tlm_model.proofs.worked.writes_enabled_bytes.Goals as goal

pub returns : goal.returns
returns c = enables_is_worked
