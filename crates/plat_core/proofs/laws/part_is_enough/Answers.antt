use Rattle.plat_core.proofs.PartLemmas.{part_is_enough}
use Rattle.plat_core.proofs.laws.part_is_enough.Goals as goal

pub returns : goal.returns
returns c = part_is_enough
