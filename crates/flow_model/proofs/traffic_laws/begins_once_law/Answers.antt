use Rattle.flow_model.proofs.OtherLaws.{begins_once_law}
use Rattle.flow_model.proofs.traffic_laws.begins_once_law.Goals as goal

pub returns : goal.returns
returns c = begins_once_law
