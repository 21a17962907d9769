use Rattle.plat_net.proofs.Targets.{ends_stop}
use Rattle.plat_net.proofs.laws.ends_are_stops.Goals as goal

pub returns : goal.returns
returns c = ends_stop
