use Rattle.one_history.proofs.Statements.{knows_history}
use Rattle.one_history.proofs.parts.views_know_the_history.Goals as goal

pub returns : goal.returns
returns g c key s h = knows_history g.W.Law.backs key s h.log h.counted
