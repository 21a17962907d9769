use Rattle.flow_check.proofs.NotGood.{miswritten_wrong}
use Rattle.flow_check.proofs.wrong.wrong_byte_is_not_good.Goals as goal

pub returns : goal.returns
returns c = miswritten_wrong
