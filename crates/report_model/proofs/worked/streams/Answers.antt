use Rattle.report_model.proofs.WorkedReports.{streaming_is_reported}
use Rattle.report_model.proofs.worked.streams.Goals as goal

pub returns : goal.returns
returns c = streaming_is_reported
