use Rattle.flow_model.proofs.OtherLaws.{counting_law}
use Rattle.flow_model.proofs.traffic_laws.counting_law.Goals as goal

pub returns : goal.returns
returns c = counting_law
