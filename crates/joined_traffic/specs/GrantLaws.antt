-- Laws of joined histories with grants.
use Rattle.std.specs.Prelude.{List}
use Rattle.tlm_types.specs.declared.entry.Entry.{Entry}
use Rattle.tlm_model.specs.Kept.{KeepsRequests}
use Rattle.tlm_model.specs.Plan.{Plan}
use Rattle.good_history.specs.Kept.{KeepsGrants, EndsGrants}
use Rattle.flow_model.specs.Plans.{HasNoFourPhase}
use Rattle.good_history.specs.Good.{IsGood, IsSound}
use Rattle.good_history.specs.Joined.{AllHaveEnded, HasOwners, IsJoined, OwnDecoupled}
use Rattle.joined_traffic.specs.Parts.{AllHaveReturned, HasGrantParts}

-- the parts of a history with the points of requests make the points of grants
abbrev pub PartsKeepGrants : Type 0
PartsKeepGrants = (p : Plan) (h : List Entry) → KeepsRequests p h → HasOwners p h → HasGrantParts p h → KeepsGrants p h

-- and those of the end, where each initiator has ended
abbrev pub PartsEndGrants : Type 0
PartsEndGrants = (p : Plan) (h : List Entry) → KeepsRequests p h → HasOwners p h → AllHaveReturned p h → EndsGrants p h

-- where no initiator has four phases, a joined history with these parts is sound, and good
abbrev pub PartsMakeSound : Type 0
PartsMakeSound = (p : Plan) (h : List Entry) → HasNoFourPhase p → OwnDecoupled p h → IsJoined p h → HasGrantParts p h → IsSound p h

abbrev pub PartsMakeGood : Type 0
PartsMakeGood = (p : Plan) (h : List Entry) → HasNoFourPhase p → OwnDecoupled p h → IsJoined p h → HasGrantParts p h → AllHaveEnded p h → AllHaveReturned p h → IsGood p h
