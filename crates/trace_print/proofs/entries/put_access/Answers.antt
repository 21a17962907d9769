use Rattle.std.specs.Prelude.{◌++◌, codes}
use Rattle.std.specs.Fmt.{decimal}
use Rattle.report_model.specs.Report.{command_word, operand_text, status_word, way_word}
use Rattle.tlm_model.specs.Text.{address_word, data_word}
use Rattle.trace_print.proofs.TextLemmas.{access-line}
use Rattle.trace_print.proofs.Putting.{puts-as, puts-more}
use Rattle.trace_print.proofs.entries.put_access.Goals as goal

pub returns : goal.returns
returns g c =
    let f = c.args.facts in
    puts-as _ _ _ _ (puts-more _ _ _ _ _ (puts-more _ _ _ _ _ c.put_piece.ensures (puts-more _ _ _ _ _ c.put_data.ensures c.put_piece-2.ensures)) (puts-more _ _ _ _ _ (puts-more _ _ _ _ _ c.put_operand.ensures c.put_data-2.ensures) c.put_piece-3.ensures))
    (access-line (way_word f.way) (codes " ") (command_word f.command) (address_word f.offset) (decimal f.length) (codes "be=") (data_word c.args.enables.now) (codes "sw=") (decimal f.width) (operand_text f.command c.args.sent.now ++ data_word c.args.shown.now) (status_word f.status) (codes "\n"))
