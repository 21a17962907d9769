use Rattle.flow_check.proofs.Reports.{completing_is_reported}
use Rattle.flow_check.proofs.reported.a_completed_write_is_reported.Goals as goal

pub returns : goal.returns
returns c = completing_is_reported
