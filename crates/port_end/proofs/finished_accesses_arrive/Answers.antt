use Rattle.port_end.proofs.Arrives.{finished}
use Rattle.port_end.proofs.finished_accesses_arrive.Goals as goal

pub returns : goal.returns
returns c = finished
