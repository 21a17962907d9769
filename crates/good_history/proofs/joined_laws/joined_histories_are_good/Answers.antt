use Rattle.good_history.proofs.WholeLemmas.{joined_is_good}
use Rattle.good_history.proofs.joined_laws.joined_histories_are_good.Goals as goal

pub returns : goal.returns
returns c = joined_is_good
