use Rattle.store_replay.proofs.StoreLemmas.{whole}
use Rattle.store_replay.proofs.laws.stores_are_those_after.Goals as goal

pub returns : goal.returns
returns c = whole
