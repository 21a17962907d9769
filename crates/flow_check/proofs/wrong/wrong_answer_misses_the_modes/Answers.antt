use Rattle.flow_check.proofs.WrongHistories.{wrongly_answered_wrong}
use Rattle.flow_check.proofs.wrong.wrong_answer_misses_the_modes.Goals as goal

pub returns : goal.returns
returns c = wrongly_answered_wrong
