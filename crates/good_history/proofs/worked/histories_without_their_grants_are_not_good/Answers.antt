use Rattle.good_history.proofs.WorkedRuns.{grants_count}
use Rattle.good_history.proofs.worked.histories_without_their_grants_are_not_good.Goals as goal

pub returns : goal.returns
returns c = grants_count
