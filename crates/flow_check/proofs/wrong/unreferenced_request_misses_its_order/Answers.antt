use Rattle.flow_check.proofs.WrongHistories.{unreferenced_wrong}
use Rattle.flow_check.proofs.wrong.unreferenced_request_misses_its_order.Goals as goal

pub returns : goal.returns
returns c = unreferenced_wrong
