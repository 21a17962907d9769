use Rattle.flow_check.proofs.CheckLemmas.{wholes_found}
use Rattle.flow_check.proofs.checks.wholes_are_found.Goals as goal

pub returns : goal.returns
returns c = wholes_found
