use Rattle.std.proofs.Common.{◌≤◌, ◌-◌, length}
use Rattle.std.specs.List.{position_or_len}
use Rattle.hop_object.specs.Lanes.{has_leg}
use Rattle.hop_object.proofs.lane.lane_of.Given as goal

abbrev pub invariant-loop-place : goal.invariant-loop-place
invariant-loop-place g l = l.place ≤ position_or_len (has_leg l.name) l.lanes

abbrev pub decreases-loop-place : goal.decreases-loop-place
decreases-loop-place g l = length l.lanes - l.place
