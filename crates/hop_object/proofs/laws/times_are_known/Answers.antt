use Rattle.hop_object.proofs.LegLaws.{has_times}
use Rattle.hop_object.proofs.laws.times_are_known.Goals as goal

pub returns : goal.returns
returns g c = has_times
