use Rattle.line_text.proofs.Adding.{adds-more}
use Rattle.line_text.proofs.front.write_front.Goals as goal

pub returns-clause-adds : goal.returns-clause-adds
returns-clause-adds c = adds-more _ _ _ _ _ _ _ _ c.write-time.ensures.adds (adds-more _ _ _ _ _ _ _ _ c.write_count-txn.ensures.adds c.write.ensures.adds)
