use Rattle.report_model.proofs.WorkedReports.{debug_is_reported}
use Rattle.report_model.proofs.worked.reads_by_debug_transport.Goals as goal

pub returns : goal.returns
returns c = debug_is_reported
