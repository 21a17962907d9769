use Rattle.one_history.proofs.Statements.{marks_revoked}
use Rattle.one_history.proofs.parts.marked_gates_are_revoked.Goals as goal

pub returns : goal.returns
returns g c key s h = marks_revoked g.W.Law.backs key s h.log h.counted h.gated
