use Rattle.good_history.proofs.OwnLemmas.{own_is_enough}
use Rattle.good_history.proofs.joined_laws.own_entries_are_enough.Goals as goal

pub returns : goal.returns
returns c = own_is_enough
