use Rattle.flow_check.proofs.CheckLemmas.{rows_found}
use Rattle.flow_check.proofs.checks.rows_are_found.Goals as goal

pub returns : goal.returns
returns c = rows_found
