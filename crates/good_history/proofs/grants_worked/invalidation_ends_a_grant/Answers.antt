use Rattle.good_history.proofs.GrantsWorked.{revoked_is_worked}
use Rattle.good_history.proofs.grants_worked.invalidation_ends_a_grant.Goals as goal

pub returns : goal.returns
returns c = revoked_is_worked
