use Rattle.one_history.proofs.Statements.{keeps_shut}
use Rattle.one_history.proofs.parts.shut_gates_are_empty.Goals as goal

pub returns : goal.returns
returns g c key s h = keeps_shut g.W.Law.backs key s h.log h.counted h.gated
