use Rattle.report_model.proofs.WorkedReports.{past_end_is_reported}
use Rattle.report_model.proofs.worked.refuses_past_the_end.Goals as goal

pub returns : goal.returns
returns c = past_end_is_reported
