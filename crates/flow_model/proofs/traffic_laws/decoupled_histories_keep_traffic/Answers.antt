use Rattle.flow_model.proofs.Decoupled.{decoupled_traffic}
use Rattle.flow_model.proofs.traffic_laws.decoupled_histories_keep_traffic.Goals as goal

pub returns : goal.returns
returns c = decoupled_traffic
