use Rattle.node_hops.proofs.News.{new_of}
use Rattle.node_hops.proofs.laws.added_of_is_new.Goals as goal

pub returns : goal.returns
returns c = new_of
