use Rattle.payload_pool.proofs.Takes.{names_transaction}
use Rattle.payload_pool.proofs.laws.references_name_transactions.Goals as goal

pub returns : goal.returns
returns c = names_transaction
