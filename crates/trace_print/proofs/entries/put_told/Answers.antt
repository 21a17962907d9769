use Rattle.trace_print.proofs.Putting.{puts-more}
use Rattle.trace_print.proofs.entries.put_told.Goals as goal

pub returns : goal.returns
returns g c = puts-more _ _ _ _ _ c.put.ensures (puts-more _ _ _ _ _ c.put_no_access.ensures c.put-2.ensures)
