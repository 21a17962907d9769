-- Laws of the four-phase traffic of a plan.
use Rattle.std.specs.Prelude.{◌≡◌, List, ◌++◌, Some, ◌≢◌}
use Rattle.std.specs.List.{AllByRecursion}
use Rattle.tlm_types.specs.declared.words.ObjectNo.{ObjectNo}
use Rattle.tlm_types.specs.declared.words.ObjectNo.TheVariants.{Memory}
use Rattle.tlm_types.specs.declared.words.TxnId.{TxnId}
use Rattle.tlm_types.specs.declared.entry.Entry.{Entry}
use Rattle.tlm_types.specs.declared.entry.What.{What}
use Rattle.tlm_types.specs.declared.entry.What.TheVariants.{Access as Accessed, Granted, Invalidated, Closed}
use Rattle.tlm_model.specs.declared.platform.Style.TheVariants.{FourPhase}
use Rattle.tlm_model.specs.Each.{AtEach}
use Rattle.tlm_model.specs.Plan.{Plan, initiators_of}
use Rattle.tlm_model.specs.Scripts.{OfRequest}
use Rattle.flow_model.specs.World.{Passage}
use Rattle.flow_model.specs.Events.{Among, Event, Finds, entries}
use Rattle.flow_model.specs.Issue.{issue_time}
use Rattle.flow_model.specs.Platform.{world_of}
use Rattle.flow_model.specs.Traffic.{FollowsPhases, HasFreedPayloads, HasPhaseTimes, HasReleaseTimes, HasWholeSequences, IsExclusive, IssuesInTime, KeepsPools, PassesHops, WaitsForEnds, slots_of}
use Rattle.flow_model.specs.Points.{IsFreed, IsTimed}
use Rattle.flow_model.specs.Events.{numbered}
use Rattle.flow_model.specs.Law.{Premises}

-- the points that hold of each beginning
pub record KeepsTraffic (p : Plan) (h : List Entry) : Type 0 where
  pub phases : FollowsPhases p h
  pub exclusive : IsExclusive p h
  pub passes : PassesHops p h
  pub pools : KeepsPools p h
  pub times : HasPhaseTimes p h

-- the points that hold at the end
pub record EndsTraffic (p : Plan) (h : List Entry) : Type 0 where
  pub sequences : HasWholeSequences p h
  pub payloads : HasFreedPayloads p h
  pub releases : HasReleaseTimes p h

abbrev pub HasTrafficBeginnings : Type 0
HasTrafficBeginnings = (p : Plan) (h m : List Entry) → KeepsTraffic p (h ++ m) → KeepsTraffic p h

-- an access, a grant, an invalidation or a closing at a memory
abbrev pub IsDecoupled : ObjectNo → What → Type 0
IsDecoupled (Memory m) (Accessed way access status got) = Unit {0}
IsDecoupled (Memory m) (Granted gate first last kind) = Unit {0}
IsDecoupled (Memory m) (Invalidated first last) = Unit {0}
IsDecoupled (Memory m) (Closed gate) = Unit {0}
IsDecoupled _ _ = ⊥

-- no initiator has four phases
abbrev pub HasNoFourPhase : Plan → Type 0
HasNoFourPhase p = AllByRecursion (λ i. i.row.style ≢ FourPhase) (initiators_of p)

-- each entry is that of a request of its initiator
abbrev pub IsAsked : Plan → List Entry → Type 0
IsAsked p h = AtEach (λ before e. OfRequest p before e (λ i r. Unit {0})) h

abbrev pub DecoupledTraffic : Type 0
DecoupledTraffic = (p : Plan) (h : List Entry) → HasNoFourPhase p → IsAsked p h → AllByRecursion (λ e. IsDecoupled e.object e.what) h → KeepsTraffic p h × EndsTraffic p h

-- The points that backed entries and the logs of hops and pools give: all but two of the times. Each list of entries backs a debug
-- read at any time, and the Take of an access for which its initiator should have waited: a run sees to both itself.
pub record HasBackedTraffic (p : Plan) (h : List Entry) : Type 0 where
  pub phases : FollowsPhases p h
  pub exclusive : IsExclusive p h
  pub passes : PassesHops p h
  pub pools : KeepsPools p h
  pub times : IsTimed (world_of p) (issue_time p) (numbered h)

abbrev pub TrafficLaw : Type 0
TrafficLaw = (p : Plan) (h : List Event) → Premises (world_of p) (slots_of p) (issue_time p) h → HasBackedTraffic p (entries h)

-- with these two the points are all
abbrev pub IssueLaw : Type 0
IssueLaw = (p : Plan) (h : List Entry) → HasBackedTraffic p h → IssuesInTime p h → WaitsForEnds p h → KeepsTraffic p h

-- where each access is back in its pool, the points of the end hold
abbrev pub EndedLaw : Type 0
EndedLaw = (p : Plan) (h : List Event) → Premises (world_of p) (slots_of p) (issue_time p) h → ((x : TxnId) (pass : Passage) → (world_of p).passage x ≡ Some pass → Finds (Among h) (IsFreed x)) → EndsTraffic p (entries h)
