use Rattle.flow_model.proofs.OtherLaws.{all_freed_law}
use Rattle.flow_model.proofs.traffic_laws.all_freed_law.Goals as goal

pub returns : goal.returns
returns c = all_freed_law
