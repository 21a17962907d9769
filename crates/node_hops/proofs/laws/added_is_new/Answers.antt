use Rattle.node_hops.proofs.News.{new_at}
use Rattle.node_hops.proofs.laws.added_is_new.Goals as goal

pub returns : goal.returns
returns c = new_at
