use Rattle.port_moves.proofs.KnowsMore.{knows_more}
use Rattle.port_moves.proofs.laws.port_knows_more.Goals as goal

pub returns : goal.returns
returns c = knows_more
