use Rattle.flow_check.proofs.WrongHistories.{hasty_response_wrong}
use Rattle.flow_check.proofs.wrong.hasty_response_misses_its_time.Goals as goal

pub returns : goal.returns
returns c = hasty_response_wrong
