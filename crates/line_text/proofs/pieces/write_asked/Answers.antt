use Rattle.line_text.proofs.Adding.{adds-more}
use Rattle.line_text.proofs.pieces.write_asked.Goals as goal

pub returns-clause-adds : goal.returns-clause-adds
returns-clause-adds c = adds-more _ _ _ _ _ _ _ _ c.write_word-way.ensures (adds-more _ _ _ _ _ _ _ _ c.write_way-command.ensures.adds (adds-more _ _ _ _ _ _ _ _ c.write_command-offset.ensures.adds (adds-more _ _ _ _ _ _ _ _ c.write_address-length.ensures.adds (adds-more _ _ _ _ _ _ _ _ c.write_word-number.ensures (adds-more _ _ _ _ _ _ _ _ c.write_number-enables.ensures.adds c.write_word.ensures)))))
