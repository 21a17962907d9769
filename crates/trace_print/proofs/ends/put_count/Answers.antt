use Rattle.trace_print.proofs.Putting.{puts-more}
use Rattle.trace_print.proofs.ends.put_count.Goals as goal

pub returns : goal.returns
returns g c =
    puts-more _ _ _ _ _ c.put.ensures c.put_number.ensures
