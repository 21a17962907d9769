use Rattle.tlm_model.proofs.WorkedRuns.{fetched_by_two_is_not_right}
use Rattle.tlm_model.proofs.worked.fetch_add_by_two_entries_is_not_right.Goals as goal

pub returns : goal.returns
returns c = fetched_by_two_is_not_right
