use Rattle.line_text.proofs.Adding.{adds-more}
use Rattle.line_text.proofs.pieces.write_unmasked.Goals as goal

pub returns-clause-adds : goal.returns-clause-adds
returns-clause-adds c = adds-more _ _ _ _ _ _ _ _ c.write_asked-enables.ensures.adds (adds-more _ _ _ _ _ _ _ _ c.write_word-width.ensures c.write_width.ensures.adds)
