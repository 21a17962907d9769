use Rattle.std.specs.Prelude.{codes}
use Rattle.std.specs.Fmt.{decimal}
use Rattle.report_model.specs.Report.{txn_word}
use Rattle.trace_print.specs.Hops.{object_word_by}
use Rattle.trace_print.proofs.TextLemmas.{head-words}
use Rattle.trace_print.proofs.Putting.{puts-as, puts-more}
use Rattle.trace_print.proofs.entries.put_head.Goals as goal

pub returns : goal.returns
returns g c =
    let p = c.args.platform.now in
    let h = c.args.head in
    puts-as _ _ _ _ (puts-more _ _ _ _ _ c.put_piece.ensures (puts-more _ _ _ _ _ c.put_txn.ensures c.put_object.ensures))
    (head-words (decimal h.position) (decimal h.time) (txn_word p h.txn) (object_word_by p h.object c.args.ends) (codes " "))
