use Rattle.flow_model.proofs.TableLemmas.{follows_modes}
use Rattle.flow_model.proofs.laws.logs_follow_modes.Goals as goal

pub returns : goal.returns
returns c = follows_modes
