use Rattle.hop_object.proofs.ReplyLaws.{reply_names}
use Rattle.hop_object.proofs.laws.replies_name_transactions.Goals as goal

pub returns : goal.returns
returns g c = reply_names
