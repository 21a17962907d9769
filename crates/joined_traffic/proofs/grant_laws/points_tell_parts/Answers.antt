use Rattle.joined_traffic.proofs.Exact.{points_tell_parts, worked_have_parts}
use Rattle.joined_traffic.proofs.grant_laws.points_tell_parts.Goals as goal

pub returns : goal.returns
returns c = record { parts = points_tell_parts; worked = worked_have_parts }
