use Rattle.flow_check.proofs.WrongHistories.{ended_below_first_wrong}
use Rattle.flow_check.proofs.wrong.early_end_below_misses_its_turn.Goals as goal

pub returns : goal.returns
returns c = ended_below_first_wrong
