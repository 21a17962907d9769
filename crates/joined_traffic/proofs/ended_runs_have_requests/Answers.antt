use Rattle.joined_traffic.proofs.FinalLemmas.{ended_has_requests}
use Rattle.joined_traffic.proofs.ended_runs_have_requests.Goals as goal

pub returns : goal.returns
returns c = ended_has_requests
