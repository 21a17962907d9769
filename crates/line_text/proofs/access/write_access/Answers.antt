use Rattle.line_text.proofs.Adding.{adds-more}
use Rattle.line_text.proofs.access.write_access.Goals as goal

pub returns-clause-adds : goal.returns-clause-adds
returns-clause-adds c = adds-more _ _ _ _ _ _ _ _ c.write_front-memory.ensures.adds (adds-more _ _ _ _ _ _ _ _ c.write-asked.ensures.adds (adds-more _ _ _ _ _ _ _ _ c.write_unmasked-shown.ensures.adds (adds-more _ _ _ _ _ _ _ _ c.write_shown-status.ensures.adds c.write_status.ensures.adds)))
