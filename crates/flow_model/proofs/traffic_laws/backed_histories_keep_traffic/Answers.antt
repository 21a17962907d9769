use Rattle.flow_model.proofs.Backed.{traffic_law}
use Rattle.flow_model.proofs.traffic_laws.backed_histories_keep_traffic.Goals as goal

pub returns : goal.returns
returns c = traffic_law
