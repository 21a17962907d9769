use Rattle.plat_core.proofs.NetRounds.{rounds_of_all}
use Rattle.plat_core.proofs.laws.rounds_of_all.Goals as goal

pub returns : goal.returns
returns c = rounds_of_all
