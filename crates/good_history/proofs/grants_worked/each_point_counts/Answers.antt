use Rattle.good_history.proofs.GrantsWorked.{each_point_counts}
use Rattle.good_history.proofs.grants_worked.each_point_counts.Goals as goal

pub returns : goal.returns
returns c = each_point_counts
