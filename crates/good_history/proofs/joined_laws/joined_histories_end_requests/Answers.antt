use Rattle.good_history.proofs.WholeLemmas.{joined_ends_requests}
use Rattle.good_history.proofs.joined_laws.joined_histories_end_requests.Goals as goal

pub returns : goal.returns
returns c = joined_ends_requests
