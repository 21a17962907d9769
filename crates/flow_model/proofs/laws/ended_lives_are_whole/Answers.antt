use Rattle.flow_model.proofs.LifeLemmas.{life_whole}
use Rattle.flow_model.proofs.laws.ended_lives_are_whole.Goals as goal

pub returns : goal.returns
returns c = life_whole
