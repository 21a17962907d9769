use Rattle.report_model.proofs.WorkedReports.{enables_is_reported}
use Rattle.report_model.proofs.worked.writes_enabled_bytes.Goals as goal

pub returns : goal.returns
returns c = enables_is_reported
