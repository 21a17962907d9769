use Rattle.flow_check.proofs.WrongHistories.{freed_twice_wrong}
use Rattle.flow_check.proofs.wrong.freed_payload_is_not_live.Goals as goal

pub returns : goal.returns
returns c = freed_twice_wrong
