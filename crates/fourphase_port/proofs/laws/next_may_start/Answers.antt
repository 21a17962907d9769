use Rattle.fourphase_port.proofs.MayStocks.{may_start}
use Rattle.fourphase_port.proofs.laws.next_may_start.Goals as goal

pub returns : goal.returns
returns c = may_start
