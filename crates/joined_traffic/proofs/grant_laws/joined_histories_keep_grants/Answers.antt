use Rattle.joined_traffic.proofs.Wholes.{parts_keep_grants}
use Rattle.joined_traffic.proofs.grant_laws.joined_histories_keep_grants.Goals as goal

pub returns : goal.returns
returns c = parts_keep_grants
