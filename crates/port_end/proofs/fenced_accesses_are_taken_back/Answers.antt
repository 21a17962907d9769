use Rattle.port_end.proofs.Arrives.{fenced_back as the_law}
use Rattle.port_end.proofs.fenced_accesses_are_taken_back.Goals as goal

pub returns : goal.returns
returns c = the_law
