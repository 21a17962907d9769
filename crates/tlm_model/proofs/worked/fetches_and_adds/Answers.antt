use Rattle.tlm_model.proofs.WorkedRuns.{fetch_is_worked}
use Rattle.tlm_model.proofs.worked.fetches_and_adds.Goals as goal

pub returns : goal.returns
returns c = fetch_is_worked
