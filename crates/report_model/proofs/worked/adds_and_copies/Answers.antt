use Rattle.report_model.proofs.WorkedReports.{sum_is_reported}
use Rattle.report_model.proofs.worked.adds_and_copies.Goals as goal

pub returns : goal.returns
returns c = sum_is_reported
