use Rattle.report_model.proofs.WorkedReports.{readback_is_reported}
use Rattle.report_model.proofs.worked.reads_back.Goals as goal

pub returns : goal.returns
returns c = readback_is_reported
