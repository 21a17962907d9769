use Rattle.hop_object.proofs.ReplyLaws.{fetched_sent}
use Rattle.hop_object.proofs.laws.fetched_items_were_sent.Goals as goal

pub returns : goal.returns
returns g c = fetched_sent
