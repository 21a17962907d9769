use Rattle.trace_print.proofs.Putting.{puts-more}
use Rattle.trace_print.proofs.memories.put_memory.Goals as goal

pub returns : goal.returns
returns g c =
    let rows = rw c.requires at c.put_rows.ensures in
    puts-more _ _ _ _ _ c.put_size.ensures rows
