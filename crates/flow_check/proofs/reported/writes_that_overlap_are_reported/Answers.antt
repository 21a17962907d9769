use Rattle.flow_check.proofs.Reports.{overlapping_is_reported}
use Rattle.flow_check.proofs.reported.writes_that_overlap_are_reported.Goals as goal

pub returns : goal.returns
returns c = overlapping_is_reported
