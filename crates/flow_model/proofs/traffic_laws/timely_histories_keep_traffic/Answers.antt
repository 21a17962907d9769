use Rattle.flow_model.proofs.Backed.{issue_law}
use Rattle.flow_model.proofs.traffic_laws.timely_histories_keep_traffic.Goals as goal

pub returns : goal.returns
returns c = issue_law
