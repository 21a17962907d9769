use Rattle.good_history.proofs.Beginnings.{sound_beginnings}
use Rattle.good_history.proofs.laws.beginnings_are_sound.Goals as goal

pub returns : goal.returns
returns c = sound_beginnings
