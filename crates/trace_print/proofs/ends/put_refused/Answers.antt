use Rattle.std.proofs.Common.{◌∷◌, []}
use Rattle.std.specs.Prelude.{codes}
use Rattle.std.specs.Fmt.{decimal}
use Rattle.report_model.specs.Report.{seq_word}
use Rattle.tlm_model.specs.Text.{address_word}
use Rattle.trace_print.specs.Told.{refused_command}
use Rattle.trace_print.proofs.TextLemmas.{refused-words}
use Rattle.trace_print.proofs.Putting.{puts-as, puts-more}
use Rattle.trace_print.proofs.ends.put_refused.Goals as goal

pub returns : goal.returns
returns g c =
    let item = c.args.item in
    puts-as _ _ _ _ (puts-more _ _ _ _ _ c.put.ensures (puts-more _ _ _ _ _ c.put_seq.ensures (puts-more _ _ _ _ _ c.put_number.ensures (puts-more _ _ _ _ _ c.put-2.ensures (puts-more _ _ _ _ _ c.put_refused_command.ensures (puts-more _ _ _ _ _ c.put-3.ensures (puts-more _ _ _ _ _ c.put_address.ensures c.end_line.ensures)))))))
    (refused-words (codes "refused ") (seq_word c.args.name.now item.seq) (codes " ") (decimal item.time) (refused_command item) (address_word item.address) (10 ∷ []))
