use Rattle.trace_print.proofs.Putting.{puts-more}
use Rattle.trace_print.proofs.entries.put_invalidated.Goals as goal

pub returns : goal.returns
returns g c = puts-more _ _ _ _ _ c.put.ensures c.put_range.ensures
