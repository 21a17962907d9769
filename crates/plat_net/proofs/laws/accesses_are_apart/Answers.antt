use Rattle.cargo_model.specs.Known.{Known}
use Rattle.plat_net.proofs.Given.{asked_apart}
use Rattle.plat_net.proofs.laws.accesses_are_apart.Goals as goal

pub returns : goal.returns
returns c = λ p tokens known x pass asked shape. asked_apart p tokens (Known p.platform known) x pass asked shape
