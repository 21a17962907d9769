use Rattle.one_history.proofs.Statements.{stands_once}
use Rattle.one_history.proofs.parts.positions_stand_once.Goals as goal

pub returns : goal.returns
returns g c key s h = stands_once g.W.Law.backs key s h.log h.counted
