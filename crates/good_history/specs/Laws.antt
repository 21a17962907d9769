-- Laws of right histories.
use Rattle.std.specs.Prelude.{List, ◌++◌}
use Rattle.std.specs.List.{AllByRecursion}
use Rattle.tlm_types.specs.declared.entry.Entry.{Entry}
use Rattle.tlm_model.specs.Kept.{KeepsRequests, EndsRequests}
use Rattle.tlm_model.specs.Plan.{Plan}
use Rattle.flow_model.specs.Plans.{HasNoFourPhase, IsDecoupled, KeepsTraffic, EndsTraffic}
use Rattle.good_history.specs.Kept.{KeepsGrants, EndsGrants}
use Rattle.good_history.specs.GrantLaws.{ClosesNothing, HasNoDirect}
use Rattle.good_history.specs.Good.{IsSound, IsGood}

-- each beginning of a sound history is sound
abbrev pub HasSoundBeginnings : Type 0
HasSoundBeginnings = (p : Plan) (h m : List Entry) → IsSound p (h ++ m) → IsSound p h

-- each entry is an access, a grant, an invalidation or a closing at a memory
abbrev pub AllDecoupled : List Entry → Type 0
AllDecoupled h = AllByRecursion (λ e. IsDecoupled e.object e.what) h

-- where no initiator has four phases, a sound history has no other entries
abbrev pub SoundIsDecoupled : Type 0
SoundIsDecoupled = (p : Plan) (h : List Entry) → HasNoFourPhase p → IsSound p h → AllDecoupled h

-- and for a history without others the points of requests and of grants are all
abbrev pub DecoupledIsSound : Type 0
DecoupledIsSound = (p : Plan) (h : List Entry) → HasNoFourPhase p → AllDecoupled h → KeepsRequests p h → KeepsGrants p h → IsSound p h

abbrev pub DecoupledIsGood : Type 0
DecoupledIsGood = (p : Plan) (h : List Entry) → HasNoFourPhase p → AllDecoupled h → KeepsRequests p h → KeepsGrants p h → EndsRequests p h → EndsGrants p h → IsGood p h

-- where no initiator is direct, a sound history closes no gate
abbrev pub SoundIsUngranted : Type 0
SoundIsUngranted = (p : Plan) (h : List Entry) → HasNoDirect p → IsSound p h → ClosesNothing h

-- and for a history that closes none the points of requests and of four-phase traffic are all
abbrev pub UngrantedIsSound : Type 0
UngrantedIsSound = (p : Plan) (h : List Entry) → HasNoDirect p → ClosesNothing h → KeepsRequests p h → KeepsTraffic p h → IsSound p h

abbrev pub UngrantedIsGood : Type 0
UngrantedIsGood = (p : Plan) (h : List Entry) → HasNoDirect p → ClosesNothing h → KeepsRequests p h → KeepsTraffic p h → EndsRequests p h → EndsTraffic p h → IsGood p h
