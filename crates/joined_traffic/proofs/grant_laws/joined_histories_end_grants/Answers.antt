use Rattle.joined_traffic.proofs.Ends.{parts_end_grants}
use Rattle.joined_traffic.proofs.grant_laws.joined_histories_end_grants.Goals as goal

pub returns : goal.returns
returns c = parts_end_grants
