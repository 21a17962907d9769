use Rattle.report_model.proofs.WorkedReports.{quantum_is_reported}
use Rattle.report_model.proofs.worked.syncs_by_the_quantum.Goals as goal

pub returns : goal.returns
returns c = quantum_is_reported
