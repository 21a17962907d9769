-- Laws of joined histories.
use Rattle.std.specs.Prelude.{ℕ, ◌≡◌, List, ◌++◌, Some, slice_get}
use Rattle.std.specs.List.{AllByRecursion}
use Rattle.tlm_types.specs.declared.words.ObjectNo.TheVariants.{Memory}
use Rattle.tlm_types.specs.declared.entry.Entry.{Entry}
use Rattle.tlm_model.specs.declared.platform.MemoryRow.{MemoryRow}
use Rattle.tlm_model.specs.declared.platform.Platform.{Platform}
use Rattle.tlm_model.specs.History.{IsStoreLegal, entries_at, last_store}
use Rattle.tlm_model.specs.Kept.{KeepsRequests, EndsRequests}
use Rattle.tlm_model.specs.Log.{log_bytes}
use Rattle.tlm_model.specs.Plan.{Plan, Initiator, initiators_of}
use Rattle.tlm_model.specs.Requests.{Request, requests_of}
use Rattle.tlm_model.specs.Scripts.{IsPlaced, RunsScripts}
use Rattle.tlm_model.specs.Times.{HasDecoupledTimes}
use Rattle.flow_model.specs.Plans.{HasNoFourPhase}
use Rattle.good_history.specs.GrantLaws.{ClosesNothing, HasNoDirect}
use Rattle.good_history.specs.Good.{IsGood, IsSound}
use Rattle.good_history.specs.Own.{AsksByOwn, IsToldByOwn, own}
use Rattle.good_history.specs.Joined.{AllHaveEnded, HasLogs, HasOwners, IsJoined, OwnDecoupled}

-- an initiator's own entries say all that it is told
abbrev pub OwnIsEnough : Type 0
OwnIsEnough = (p : Platform) (i : Initiator) (h : List Entry) → IsToldByOwn p i h

-- what it has asked for by its own entries, and what it is still to ask for, whatever follows, it has in the history
abbrev pub OwnRequestsStand : Type 0
OwnRequestsStand =
    (p : Platform) (i : Initiator) (h : List Entry) (made : List Request) (left : List Entry → List Request)
    → AsksByOwn i.number left
    → ((m : List Entry) → requests_of p i (own i.number h ++ m) ≡ made ++ left (own i.number h ++ m))
    → (m : List Entry) → requests_of p i (h ++ m) ≡ made ++ left (h ++ m)

-- where each initiator's own entries run the scripts, the history does
abbrev pub OwnScriptsJoin : Type 0
OwnScriptsJoin = (p : Plan) (h : List Entry) → HasOwners p h → AllByRecursion (λ i. RunsScripts p (own i.number h)) (initiators_of p) → RunsScripts p h

-- where they have the times of their requests, the history has
abbrev pub OwnTimesJoin : Type 0
OwnTimesJoin = (p : Plan) (h : List Entry) → HasOwners p h → AllByRecursion (λ i. HasDecoupledTimes p (own i.number h)) (initiators_of p) → HasDecoupledTimes p h

-- where each memory's log is lawful and accesses stand at memories alone, the history is that of one plain byte store
abbrev pub LogsMakeStore : Type 0
LogsMakeStore = (p : Platform) (h : List Entry) → HasLogs p h → AllByRecursion (λ e. IsPlaced p e.txn.initiator e.object e.what) h → IsStoreLegal p h

-- which at its end has the bytes of the logs
abbrev pub LogsMakeLastStore : Type 0
LogsMakeLastStore = (p : Platform) (h : List Entry) (m : ℕ) (row : MemoryRow) → slice_get p.memories m ≡ Some row → last_store p h m ≡ log_bytes row.traits (entries_at (Memory m) h)

-- a joined history has the points of requests, and those of the end where each initiator has ended
abbrev pub JoinedKeepsRequests : Type 0
JoinedKeepsRequests = (p : Plan) (h : List Entry) → IsJoined p h → KeepsRequests p h

abbrev pub JoinedEndsRequests : Type 0
JoinedEndsRequests = (p : Plan) (h : List Entry) → AllHaveEnded p h → EndsRequests p h

-- where no initiator has four phases and none is direct, and no gate is closed, it is sound, and good
abbrev pub JoinedIsSound : Type 0
JoinedIsSound = (p : Plan) (h : List Entry) → HasNoFourPhase p → HasNoDirect p → OwnDecoupled p h → ClosesNothing h → IsJoined p h → IsSound p h

abbrev pub JoinedIsGood : Type 0
JoinedIsGood = (p : Plan) (h : List Entry) → HasNoFourPhase p → HasNoDirect p → OwnDecoupled p h → ClosesNothing h → IsJoined p h → AllHaveEnded p h → IsGood p h
