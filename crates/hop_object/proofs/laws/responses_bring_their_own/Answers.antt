use Rattle.hop_object.proofs.ReplyLaws.{brings_own}
use Rattle.hop_object.proofs.laws.responses_bring_their_own.Goals as goal

pub returns : goal.returns
returns g c = brings_own
