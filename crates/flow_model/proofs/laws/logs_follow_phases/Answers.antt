use Rattle.flow_model.proofs.CallLemmas.{follows}
use Rattle.flow_model.proofs.laws.logs_follow_phases.Goals as goal

pub returns : goal.returns
returns c = follows
