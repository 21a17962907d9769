use Rattle.flow_model.proofs.Ways.{world_law}
use Rattle.flow_model.proofs.traffic_laws.platforms_without_cycles_are_worlds.Goals as goal

pub returns : goal.returns
returns c = world_law
