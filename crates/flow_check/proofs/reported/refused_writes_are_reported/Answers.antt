use Rattle.flow_check.proofs.Reports.{turned_away_is_reported}
use Rattle.flow_check.proofs.reported.refused_writes_are_reported.Goals as goal

pub returns : goal.returns
returns c = turned_away_is_reported
