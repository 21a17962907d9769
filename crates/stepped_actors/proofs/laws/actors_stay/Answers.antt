use Rattle.stepped_actors.proofs.Stay.{all_stay}
use Rattle.stepped_actors.proofs.laws.actors_stay.Goals as goal

pub returns : goal.returns
returns c = all_stay c.initiators_stay.ensures.stepped c.stepped_knows_more.ensures c.stepped_routers_keep.ensures c.more_is_known.ensures
