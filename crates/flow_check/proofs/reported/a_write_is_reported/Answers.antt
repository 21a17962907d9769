use Rattle.flow_check.proofs.Reports.{accepting_is_reported}
use Rattle.flow_check.proofs.reported.a_write_is_reported.Goals as goal

pub returns : goal.returns
returns c = accepting_is_reported
