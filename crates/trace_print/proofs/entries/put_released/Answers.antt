use Rattle.trace_print.proofs.Putting.{puts-more}
use Rattle.trace_print.proofs.entries.put_released.Goals as goal

pub returns-then-freed : goal.returns-then-freed
returns-then-freed g c = rw c.if-freed.true (puts-more _ _ _ _ _ c.put_slot.ensures c.put.ensures)
