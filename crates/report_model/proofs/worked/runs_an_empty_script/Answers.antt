use Rattle.report_model.proofs.WorkedReports.{empty_is_reported}
use Rattle.report_model.proofs.worked.runs_an_empty_script.Goals as goal

pub returns : goal.returns
returns c = empty_is_reported
