use Rattle.one_history.proofs.Statements.{merges_backed}
use Rattle.one_history.proofs.parts.entries_are_backed.Goals as goal

pub returns : goal.returns
returns g c key s h = merges_backed g.W.Law.backs key s h.log h.counted
