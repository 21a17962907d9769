use Rattle.trace_print.proofs.Putting.{puts-more}
use Rattle.trace_print.proofs.put_title.Goals as goal

pub returns : goal.returns
returns g c =
    puts-more _ _ _ _ _ c.put.ensures c.end_line.ensures
