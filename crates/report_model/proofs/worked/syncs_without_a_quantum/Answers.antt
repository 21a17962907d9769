use Rattle.report_model.proofs.WorkedReports.{no_quantum_is_reported}
use Rattle.report_model.proofs.worked.syncs_without_a_quantum.Goals as goal

pub returns : goal.returns
returns c = no_quantum_is_reported
