use Rattle.good_history.proofs.WholeLemmas.{joined_keeps_requests}
use Rattle.good_history.proofs.joined_laws.joined_histories_keep_requests.Goals as goal

pub returns : goal.returns
returns c = joined_keeps_requests
