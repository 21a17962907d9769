use Rattle.port_end.proofs.Arrives.{plain_back as the_law}
use Rattle.port_end.proofs.plain_accesses_are_taken_back.Goals as goal

pub returns : goal.returns
returns c = the_law
