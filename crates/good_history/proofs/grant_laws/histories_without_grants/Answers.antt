use Rattle.good_history.proofs.GrantsNone.{ungranted_keeps_grants}
use Rattle.good_history.proofs.grant_laws.histories_without_grants.Goals as goal

pub returns : goal.returns
returns c = ungranted_keeps_grants
