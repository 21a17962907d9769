use Rattle.good_history.proofs.GrantBeginnings.{grant_beginnings}
use Rattle.good_history.proofs.grant_laws.beginnings_keep_grants.Goals as goal

pub returns : goal.returns
returns c = grant_beginnings
