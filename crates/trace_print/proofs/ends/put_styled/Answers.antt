use Rattle.trace_print.proofs.Putting.{puts-more}
use Rattle.trace_print.proofs.ends.put_styled.Goals as goal

pub returns : goal.returns
returns g c =
    let name = rw c.as_text.ensures at c.put_text.ensures in
    let style = rw c.style_text.ensures at c.put_text-2.ensures in
    puts-more _ _ _ _ _ c.put.ensures (puts-more _ _ _ _ _ name (puts-more _ _ _ _ _ c.put-2.ensures style))
