use Rattle.fourphase_port.proofs.Waiting.{nothing_looked}
use Rattle.fourphase_port.proofs.laws.nothing_has_looked.Goals as goal

pub returns : goal.returns
returns c = nothing_looked
