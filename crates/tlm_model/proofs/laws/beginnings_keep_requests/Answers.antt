use Rattle.tlm_model.proofs.HistoryLemmas.{KeepsRequests-front}
use Rattle.tlm_model.proofs.laws.beginnings_keep_requests.Goals as goal

pub returns : goal.returns
returns c = KeepsRequests-front
