-- The parts ask for no more than the points.
use Rattle.std.specs.Prelude.{List}
use Rattle.tlm_types.specs.declared.entry.Entry.{Entry}
use Rattle.tlm_model.specs.Kept.{KeepsRequests}
use Rattle.tlm_model.specs.Plan.{Plan}
use Rattle.good_history.specs.Kept.{KeepsGrants}
use Rattle.good_history.specs.GrantsWorked.{revoked, revoked_plan, spent, spent_plan, windowed, windowed_plan}
use Rattle.joined_traffic.specs.Parts.{HasGrantParts}

-- where a history has the points, each initiator, each memory and the gates have their parts
abbrev pub PointsTellParts : Type 0
PointsTellParts = (p : Plan) (h : List Entry) → KeepsRequests p h → KeepsGrants p h → HasGrantParts p h

-- so the runs that were made by hand have them
pub record WorkedHaveParts : Type 0 where
  pub revoked_has : HasGrantParts revoked_plan revoked
  pub windowed_has : HasGrantParts windowed_plan windowed
  pub spent_has : HasGrantParts spent_plan spent
