use Rattle.hop_object.proofs.LegLaws.{names_transaction}
use Rattle.hop_object.proofs.laws.legs_name_transactions.Goals as goal

pub returns : goal.returns
returns g c = names_transaction
