use Rattle.good_history.proofs.GrantsWorked.{windowed_is_worked}
use Rattle.good_history.proofs.grants_worked.grant_serves_a_window.Goals as goal

pub returns : goal.returns
returns c = windowed_is_worked
