use Rattle.fourphase_port.proofs.MayStocks.{may_stock}
use Rattle.fourphase_port.proofs.laws.next_may_be_stocked.Goals as goal

pub returns : goal.returns
returns c = may_stock
