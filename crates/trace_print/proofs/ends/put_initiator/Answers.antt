use Rattle.trace_print.proofs.Putting.{puts-more}
use Rattle.trace_print.proofs.ends.put_initiator.Goals as goal

pub returns : goal.returns
returns g c =
    let refusals = rw c.as_text.ensures at c.put_refusals.ensures in
    puts-more _ _ _ _ _ c.put_end.ensures refusals
