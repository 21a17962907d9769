use Rattle.flow_check.proofs.WorkedRequests.{late_debug_keeps}
use Rattle.flow_check.proofs.NotGood.{late_debug_backed, late_debug_wrong}
use Rattle.flow_check.proofs.wrong.late_debug_misses_its_time.Goals as goal

pub returns-clause-requests : goal.returns-clause-requests
returns-clause-requests c = late_debug_keeps

pub returns-clause-backed : goal.returns-clause-backed
returns-clause-backed c = late_debug_backed

pub returns-clause-wrong : goal.returns-clause-wrong
returns-clause-wrong c = late_debug_wrong
