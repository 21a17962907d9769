use Rattle.flow_model.proofs.LifeLemmas.{life_begun}
use Rattle.flow_model.proofs.laws.lives_follow_phases.Goals as goal

pub returns : goal.returns
returns c = life_begun
