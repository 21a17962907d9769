use Rattle.flow_check.proofs.WorkedRequests.{unfenced_keeps}
use Rattle.flow_check.proofs.NotGood.{unfenced_backed, unfenced_wrong}
use Rattle.flow_check.proofs.wrong.unfenced_write_misses_its_turn.Goals as goal

pub returns-clause-requests : goal.returns-clause-requests
returns-clause-requests c = unfenced_keeps

pub returns-clause-backed : goal.returns-clause-backed
returns-clause-backed c = unfenced_backed

pub returns-clause-wrong : goal.returns-clause-wrong
returns-clause-wrong c = unfenced_wrong
