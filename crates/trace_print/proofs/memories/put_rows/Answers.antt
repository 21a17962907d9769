use Rattle.std.proofs.Common.{◌*◌, List, ℕ, ap}
use Rattle.report_model.specs.Report.{row_lines}
use Rattle.trace_print.specs.Told.{text_of}
use Rattle.trace_print.proofs.StoreLemmas.{row-is, rows-more}
use Rattle.trace_print.proofs.Putting.{puts-as, puts-more}
use Rattle.trace_print.proofs.memories.put_rows.Goals as goal

pub loop-k-preserved : goal.loop-k-preserved
loop-k-preserved g c =
    let start = 16 * c.loop-k.k in
    let row = puts-as _ _ _ _ c.put_row.ensures (ap (λ (l : List ℕ). text_of (row_lines start l)) (row-is start c.min-len.result c.args.bytes.now c.min-len.ensures)) in
    puts-as _ _ _ _ (puts-more _ _ _ _ _ c.loop-k.invariant row) (rows-more c.loop-k.k c.args.bytes.now)
