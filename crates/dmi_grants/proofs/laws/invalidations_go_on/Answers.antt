use Rattle.dmi_grants.proofs.Revoking.{revoking_can_pay, revoking_goes_on, revoking_is_told}
use Rattle.dmi_grants.proofs.laws.invalidations_go_on.Goals as goal

pub returns-clause-more : goal.returns-clause-more
returns-clause-more c = revoking_goes_on

pub returns-clause-told : goal.returns-clause-told
returns-clause-told c = revoking_is_told

pub returns-clause-pays : goal.returns-clause-pays
returns-clause-pays c = revoking_can_pay
