use Rattle.fourphase_port.proofs.Stepping.{stepped_more}
use Rattle.fourphase_port.proofs.laws.stepped_knows_more.Goals as goal

pub returns : goal.returns
returns c = stepped_more
