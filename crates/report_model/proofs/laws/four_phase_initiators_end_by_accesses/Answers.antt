use Rattle.report_model.proofs.Ending.{ends_by_accesses}
use Rattle.report_model.proofs.laws.four_phase_initiators_end_by_accesses.Goals as goal

pub returns : goal.returns
returns c = ends_by_accesses
