use Rattle.plat_net.proofs.NoCycle.{shapes_law}
use Rattle.plat_net.proofs.laws.shapes_have_no_cycle.Goals as goal

pub returns : goal.returns
returns c = shapes_law
