use Rattle.std.proofs.Common.{◌∷◌, [], length}
use Rattle.std.specs.Prelude.{codes}
use Rattle.std.specs.Fmt.{decimal}
use Rattle.report_model.specs.Report.{style_word}
use Rattle.trace_print.proofs.TextLemmas.{end-words}
use Rattle.trace_print.proofs.Putting.{puts-as, puts-more}
use Rattle.trace_print.proofs.ends.put_end.Goals as goal

pub returns : goal.returns
returns g c =
    let row = c.args.row.now in
    let end = c.args.end.now in
    let refused = rw c.len.ensures at c.put_count-2.ensures in
    puts-as _ _ _ _ (puts-more _ _ _ _ _ c.put_styled.ensures (puts-more _ _ _ _ _ c.put_count.ensures (puts-more _ _ _ _ _ refused (puts-more _ _ _ _ _ c.put_count-3.ensures (puts-more _ _ _ _ _ c.put_count-4.ensures c.end_line.ensures)))))
    (end-words (codes "initiator ") row.name (codes " ") (style_word row.style) (codes " transactions ") (decimal end.transactions) (codes " refused ") (decimal (length end.refused.items)) (codes " syncs ") (decimal end.syncs) (codes " end ") (decimal end.end) (10 ∷ []))
