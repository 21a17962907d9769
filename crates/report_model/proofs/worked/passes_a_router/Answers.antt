use Rattle.report_model.proofs.WorkedReports.{routed_is_reported}
use Rattle.report_model.proofs.worked.passes_a_router.Goals as goal

pub returns : goal.returns
returns c = routed_is_reported
