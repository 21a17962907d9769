use Rattle.trace_print.proofs.Putting.{puts-more}
use Rattle.trace_print.proofs.words.put_range.Goals as goal

pub returns : goal.returns
returns g c =
    puts-more _ _ _ _ _ c.put_address.ensures (puts-more _ _ _ _ _ c.put.ensures c.put_address-2.ensures)
