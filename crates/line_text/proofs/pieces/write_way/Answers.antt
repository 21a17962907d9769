use Rattle.std.proofs.Common.{append_assoc}
use Rattle.line_text.proofs.Adding.{adds-more}
use Rattle.line_text.proofs.pieces.write_way.Goals as goal

pub returns-in-Direct-clause-adds : goal.returns-in-Direct-clause-adds
returns-in-Direct-clause-adds c = rw (c.in-Direct.is, append_assoc) (adds-more _ _ _ _ _ _ _ _ c.write_word-place.ensures c.write_spaced.ensures.adds)
