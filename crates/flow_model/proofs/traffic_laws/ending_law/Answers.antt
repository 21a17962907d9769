use Rattle.flow_model.proofs.OtherLaws.{ending_law}
use Rattle.flow_model.proofs.traffic_laws.ending_law.Goals as goal

pub returns : goal.returns
returns c = ending_law
