use Rattle.net_end.proofs.Closing.{closed_has_grants}
use Rattle.net_end.proofs.grant_laws.closed_histories_have_grants.Goals as goal

pub returns : goal.returns
returns c = closed_has_grants
