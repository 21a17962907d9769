use Rattle.good_history.proofs.Decoupled.{decoupled_is_good}
use Rattle.good_history.proofs.laws.decoupled_histories_are_good.Goals as goal

pub returns : goal.returns
returns c = decoupled_is_good
