use Rattle.good_history.proofs.GrantsWorked.{each_end_counts}
use Rattle.good_history.proofs.grants_worked.each_end_counts.Goals as goal

pub returns : goal.returns
returns c = each_end_counts
