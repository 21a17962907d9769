use Rattle.flow_check.proofs.Overlapping.{overlapping_works}
use Rattle.flow_check.proofs.worked.writes_overlap.Goals as goal

pub returns : goal.returns
returns c = overlapping_works
