use Rattle.one_history.proofs.Statements.{ends_direct}
use Rattle.one_history.proofs.parts.closings_are_last.Goals as goal

pub returns : goal.returns
returns g c key s h = ends_direct g.W.Law.backs key s h.log h.counted h.gated
