use Rattle.one_history.proofs.Statements.{counts_stays}
use Rattle.one_history.proofs.parts.stays_are_counted.Goals as goal

pub returns : goal.returns
returns g c key s h = counts_stays g.W.Law.backs key s h.log h.counted h.gated
