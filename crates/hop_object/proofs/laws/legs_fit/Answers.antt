use Rattle.hop_object.proofs.LegLaws.{legs_fit}
use Rattle.hop_object.proofs.laws.legs_fit.Goals as goal

pub returns : goal.returns
returns g c = legs_fit
