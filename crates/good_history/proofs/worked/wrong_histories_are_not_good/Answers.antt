use Rattle.good_history.proofs.WorkedRuns.{wrong_are_not_good}
use Rattle.good_history.proofs.worked.wrong_histories_are_not_good.Goals as goal

pub returns : goal.returns
returns c = wrong_are_not_good
