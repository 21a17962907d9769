use Rattle.good_history.proofs.WorkedRuns.{worked_are_good}
use Rattle.good_history.proofs.worked.worked_runs_are_good.Goals as goal

pub returns : goal.returns
returns c = worked_are_good
