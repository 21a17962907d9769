use Rattle.flow_model.proofs.Beginnings.{beginnings}
use Rattle.flow_model.proofs.traffic_laws.beginnings_keep_traffic.Goals as goal

pub returns : goal.returns
returns c = beginnings
