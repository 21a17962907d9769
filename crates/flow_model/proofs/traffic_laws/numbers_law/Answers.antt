use Rattle.flow_model.proofs.OtherLaws.{numbers_law}
use Rattle.flow_model.proofs.traffic_laws.numbers_law.Goals as goal

pub returns : goal.returns
returns c = numbers_law
