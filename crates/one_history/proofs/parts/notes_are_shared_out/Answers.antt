use Rattle.one_history.proofs.Statements.{shares_notes}
use Rattle.one_history.proofs.parts.notes_are_shared_out.Goals as goal

pub returns : goal.returns
returns g c key s h = shares_notes g.W.Law.backs key s h.log h.counted
