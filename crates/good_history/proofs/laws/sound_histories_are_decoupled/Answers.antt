use Rattle.good_history.proofs.Decoupled.{sound_is_decoupled}
use Rattle.good_history.proofs.laws.sound_histories_are_decoupled.Goals as goal

pub returns : goal.returns
returns c = sound_is_decoupled
