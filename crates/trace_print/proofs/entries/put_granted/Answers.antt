use Rattle.std.specs.Prelude.{codes}
use Rattle.std.specs.Fmt.{decimal}
use Rattle.report_model.specs.Report.{kind_word, range_word}
use Rattle.trace_print.proofs.TextLemmas.{granted-words}
use Rattle.trace_print.proofs.Putting.{puts-as, puts-more}
use Rattle.trace_print.proofs.entries.put_granted.Goals as goal

pub returns : goal.returns
returns g c =
    let text = rw c.kind_text.ensures at c.put_text.ensures in
    puts-as _ _ _ _ (puts-more _ _ _ _ _ c.put_slot.ensures (puts-more _ _ _ _ _ c.put.ensures (puts-more _ _ _ _ _ c.put_range.ensures (puts-more _ _ _ _ _ c.put-2.ensures text))))
    (granted-words (codes "granted ") (decimal c.args.gate) (codes " ") (range_word c.args.first c.args.last) (kind_word c.args.kind))
