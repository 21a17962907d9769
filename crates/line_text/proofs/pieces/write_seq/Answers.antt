use Rattle.line_text.proofs.Adding.{adds-more}
use Rattle.line_text.proofs.pieces.write_seq.Goals as goal

pub returns-clause-adds : goal.returns-clause-adds
returns-clause-adds c = adds-more _ _ _ _ _ _ _ _ c.write_word-place.ensures c.write_count.ensures.adds
