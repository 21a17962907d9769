use Rattle.report_model.proofs.WorkedReports.{ignore_is_reported}
use Rattle.report_model.proofs.worked.ignores.Goals as goal

pub returns : goal.returns
returns c = ignore_is_reported
