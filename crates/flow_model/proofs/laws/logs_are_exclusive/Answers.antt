use Rattle.flow_model.proofs.ExclusionLemmas.{exclusive}
use Rattle.flow_model.proofs.laws.logs_are_exclusive.Goals as goal

pub returns : goal.returns
returns c = exclusive
