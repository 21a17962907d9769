use Rattle.fourphase_port.proofs.MayStocks.{has_paid}
use Rattle.fourphase_port.proofs.laws.next_is_paid.Goals as goal

pub returns : goal.returns
returns c = has_paid
