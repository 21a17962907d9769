use Rattle.hop_object.proofs.LegLaws.{lives_begun}
use Rattle.hop_object.proofs.laws.lives_follow_phases.Goals as goal

pub returns : goal.returns
returns g c = lives_begun
