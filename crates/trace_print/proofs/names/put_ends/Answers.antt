use Rattle.trace_print.proofs.Putting.{puts-more}
use Rattle.trace_print.proofs.names.put_ends.Goals as goal

pub returns : goal.returns
returns g c =
    let up = rw c.up_name.ensures at c.put_text.ensures in
    let down = rw c.target_name.ensures at c.put_text-2.ensures in
    puts-more _ _ _ _ _ up (puts-more _ _ _ _ _ c.put.ensures down)
