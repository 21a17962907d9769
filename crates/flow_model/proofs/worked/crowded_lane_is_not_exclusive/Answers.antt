use Rattle.flow_model.proofs.WorkedLogs.{crowded_not_exclusive}
use Rattle.flow_model.proofs.worked.crowded_lane_is_not_exclusive.Goals as goal

pub returns : goal.returns
returns c = crowded_not_exclusive
