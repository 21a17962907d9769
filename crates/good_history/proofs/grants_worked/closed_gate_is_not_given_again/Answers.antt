use Rattle.good_history.proofs.GrantsWorked.{spent_is_worked}
use Rattle.good_history.proofs.grants_worked.closed_gate_is_not_given_again.Goals as goal

pub returns : goal.returns
returns c = spent_is_worked
