use Rattle.report_model.proofs.Ending.{ends_by_latencies}
use Rattle.report_model.proofs.laws.decoupled_initiators_end_by_latencies.Goals as goal

pub returns : goal.returns
returns c = ends_by_latencies
