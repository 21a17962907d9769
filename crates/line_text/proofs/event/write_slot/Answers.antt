use Rattle.line_text.proofs.Adding.{adds-more}
use Rattle.line_text.proofs.event.write_slot.Goals as goal

pub returns-clause-adds : goal.returns-clause-adds
returns-clause-adds g c = adds-more _ _ _ _ _ _ _ _ c.write_word-number.ensures c.write_number.ensures.adds
