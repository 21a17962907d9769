use Rattle.good_history.proofs.Ungranted.{sound_is_ungranted}
use Rattle.good_history.proofs.laws.sound_histories_are_ungranted.Goals as goal

pub returns : goal.returns
returns c = sound_is_ungranted
