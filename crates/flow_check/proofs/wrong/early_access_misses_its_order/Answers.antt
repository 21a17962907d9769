use Rattle.flow_check.proofs.WrongHistories.{early_access_wrong}
use Rattle.flow_check.proofs.wrong.early_access_misses_its_order.Goals as goal

pub returns : goal.returns
returns c = early_access_wrong
