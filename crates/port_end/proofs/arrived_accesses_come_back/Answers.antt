use Rattle.port_end.proofs.Arrives.{comes_back}
use Rattle.port_end.proofs.arrived_accesses_come_back.Goals as goal

pub returns : goal.returns
returns c = comes_back
