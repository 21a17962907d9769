use Rattle.std.proofs.Common.{◌≡◌, ◌++◌, append_assoc}
use Rattle.std.specs.Prelude.{codes}
use Rattle.tlm_model.specs.Text.{hex_of, offset_word}
use Rattle.line_text.specs.RowText.{row_text}
use Rattle.line_text.proofs.Adding.{adds-as, adds-more}
use Rattle.line_text.proofs.row.write_row.Goals as goal

pub returns-clause-adds : goal.returns-clause-adds
returns-clause-adds c =
    let r = c.args.row.now in
    let same : offset_word r.offset ++ (codes " " ++ (hex_of r.bytes.now ++ codes "\n")) ≡ row_text r = simp append_assoc in
    let digits = rw c.offset_bytes.ensures at c.write_data-space.ensures.adds in
    adds-as _ _ _ _ _ _ (adds-more _ _ _ _ _ _ _ _ digits (adds-more _ _ _ _ _ _ _ _ c.write_word-shown.ensures (adds-more _ _ _ _ _ _ _ _ c.write_data-end.ensures.adds c.write_word.ensures))) same
