use Rattle.flow_model.proofs.CallLemmas.{ended_whole}
use Rattle.flow_model.proofs.laws.ended_transactions_are_whole.Goals as goal

pub returns : goal.returns
returns c = ended_whole
