use Rattle.flow_model.proofs.OtherLaws.{count_law}
use Rattle.flow_model.proofs.traffic_laws.count_law.Goals as goal

pub returns : goal.returns
returns c = count_law
