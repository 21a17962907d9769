use Rattle.trace_print.proofs.Putting.{puts-more}
use Rattle.trace_print.proofs.words.put_sync.Goals as goal

pub returns-in-Updated : goal.returns-in-Updated
returns-in-Updated g c =
    let text = rw c.phase_text.ensures at c.put_text.ensures in
    rw c.in-Updated.is (puts-more _ _ _ _ _ c.put-in-Updated.ensures text)
