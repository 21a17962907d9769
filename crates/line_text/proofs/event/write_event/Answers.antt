use Rattle.line_text.proofs.Adding.{adds-more}
use Rattle.line_text.proofs.event.write_event.Goals as goal

pub returns-clause-adds : goal.returns-clause-adds
returns-clause-adds c = adds-more _ _ _ _ _ _ _ _ c.write_front-object.ensures.adds (adds-more _ _ _ _ _ _ _ _ c.write-what.ensures.adds c.write_what.ensures.adds)
