use Rattle.good_history.proofs.Ungranted.{ungranted_is_good, ungranted_is_sound}
use Rattle.good_history.proofs.laws.grants_change_nothing_elsewhere.Goals as goal

pub returns : goal.returns
returns c = record { sound = ungranted_is_sound; good = ungranted_is_good }
