use Rattle.good_history.proofs.Decoupled.{decoupled_is_sound}
use Rattle.good_history.proofs.laws.decoupled_histories_are_sound.Goals as goal

pub returns : goal.returns
returns c = decoupled_is_sound
