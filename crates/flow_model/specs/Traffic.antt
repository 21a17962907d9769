-- What the four-phase traffic of a whole history keeps, for a plan: the points that hold of each beginning of a right history, and
-- those that hold at its end (IEEE 1666-2011, clauses 14.5 and 15.2).
use Rattle.std.specs.Prelude.{ℕ, ◌≡◌, ◌+◌, ◌<◌, List, ◌∷◌, length, Option, Some, None, IsTrue, slice_get}
use Rattle.std.specs.List.{AllByRecursion}
use Rattle.std.specs.List.Sorted.{IsPermutation}
use Rattle.tlm_types.specs.declared.words.ObjectNo.TheVariants.{Hop, Pool}
use Rattle.tlm_types.specs.declared.words.TxnId.{TxnId}
use Rattle.tlm_types.specs.declared.words.Way.TheVariants.{Debug}
use Rattle.tlm_types.specs.declared.entry.Entry.{Entry}
use Rattle.tlm_types.specs.declared.entry.What.{What}
use Rattle.tlm_types.specs.declared.entry.What.TheVariants.{Access as Accessed, Invalidated, Closed}
use Rattle.tlm_model.specs.declared.platform.InitiatorRow.{InitiatorRow}
use Rattle.tlm_model.specs.declared.platform.Style.{Style}
use Rattle.tlm_model.specs.declared.platform.Style.TheVariants.{FourPhase as fourphase_style}
use Rattle.tlm_model.specs.Each.{AtEach}
use Rattle.tlm_model.specs.History.{entries_at}
use Rattle.tlm_model.specs.Plan.{Plan, Initiator}
use Rattle.tlm_model.specs.Requests.{Request, requests_of}
use Rattle.tlm_model.specs.Scripts.{OfRequest, comes_first}
use Rattle.base_phases.specs.Sequences.{IsSequence}
use Rattle.flow_model.specs.Calls.{calls_of}
use Rattle.flow_model.specs.Protocol.{IsExclusive as IsExclusiveHop}
use Rattle.flow_model.specs.Table.{sequences_of}
use Rattle.flow_model.specs.World.{Passage, hop_at, hop_count, row_of}
use Rattle.flow_model.specs.Events.{Among, Finds, acquires, numbered}
use Rattle.flow_model.specs.Points.{EndsInTurn, HasTable, IsFreed, IsFreedLast, IsInOrder, IsTimed, KeepsModes}
use Rattle.flow_model.specs.Counts.{KeepsCounts, TakesAtMostOnce, release_times, takes}
use Rattle.flow_model.specs.Ends.{end_time, end_times}
use Rattle.flow_model.specs.Issue.{issue_time}
use Rattle.flow_model.specs.Platform.{world_of}

-- the calls of each access on each hop are a prefix of the sequences that the components at the two ends make, and each call has the
-- answer of its component
pub record FollowsPhases (p : Plan) (h : List Entry) : Type 0 where
  pub table : HasTable (world_of p) h
  pub modes : KeepsModes (world_of p) h

-- each hop has one open request at most, one open response, and no more accesses under way than lanes
pub record IsExclusive (p : Plan) (h : List Entry) : Type 0 where
  pub hops : (o : ℕ) → IsExclusiveHop ((world_of p).hop o).limit (entries_at (Hop o) h)

-- the entries of each access stand on the hops of its way, after those that they have to stand after, and no other request has
-- such entries
pub record PassesHops (p : Plan) (h : List Entry) : Type 0 where
  pub orders : IsInOrder (world_of p) (numbered h)
  pub ends_in_turn : EndsInTurn (world_of p) (numbered h)

-- the slots of an initiator's pool
abbrev pub slots_by : Option InitiatorRow → ℕ
slots_by None = 0
slots_by (Some row) = row.pool

abbrev pub slots_of : Plan → ℕ → ℕ
slots_of p i = slots_by (slice_get p.platform.initiators i)

-- each pool counts the references of its live slots, an access is taken once at most, and its payload is back last
pub record KeepsPools (p : Plan) (h : List Entry) : Type 0 where
  pub counts : (i : ℕ) → KeepsCounts (slots_of p i) (entries_at (Pool i) h)
  pub one_take : (i : ℕ) → TakesAtMostOnce (entries_at (Pool i) h)
  pub freed_last : IsFreedLast (numbered h)

-- debug reads, invalidations and closings have the current time of their initiator
abbrev pub IsIssuedBy : Style → ℕ → ℕ → What → Type 0
IsIssuedBy fourphase_style time issued (Accessed Debug access status got) = time ≡ issued
IsIssuedBy fourphase_style time issued (Invalidated first last) = time ≡ issued
IsIssuedBy fourphase_style time issued (Closed gate) = time ≡ issued
IsIssuedBy style time issued what = Unit {0}

-- an access that a four-phase initiator waits for has ended on its first hop, which has the number of its initiator
abbrev pub HasEnded : Plan → List Entry → Initiator → Request → Option Passage → Type 0
HasEnded p before i r None = Unit {0}
HasEnded p before i r (Some pass) = IsSequence (calls_of (record { initiator = i.number; seq = r.seq }) (entries_at (Hop i.number) before))

abbrev pub IsWaitedFor : Plan → List Entry → Initiator → Request → Request → Type 0
IsWaitedFor p before i q r = IsTrue (comes_first i.row.style r q) → HasEnded p before i r ((world_of p).passage (record { initiator = i.number; seq = r.seq }))

-- the entries of a four-phase initiator's other requests have its current time
abbrev pub IssuesInTime : Plan → List Entry → Type 0
IssuesInTime p h = AtEach (λ before e. OfRequest p before e (λ i r. IsIssuedBy i.row.style e.time (issue_time p before e.txn) e.what)) h

-- no entry of a request stands before the accesses have ended for which its initiator waits
abbrev pub WaitsForEnds : Plan → List Entry → Type 0
WaitsForEnds p h = AtEach (λ before e. OfRequest p before e (λ i q. AllByRecursion (IsWaitedFor p before i q) (requests_of p.platform i before))) h

-- the entries of accesses have the times that their earlier entries give, and those of other requests the current time of their
-- initiator, which waits before each operation that isn't a plain access
pub record HasPhaseTimes (p : Plan) (h : List Entry) : Type 0 where
  pub calls : IsTimed (world_of p) (issue_time p) (numbered h)
  pub others : IssuesInTime p h
  pub waits : WaitsForEnds p h

-- At the end: each access has a whole sequence on each of its hops
pub record HasWholeSequences (p : Plan) (h : List Entry) : Type 0 where
  pub whole : (x : TxnId) (pass : Passage) → (world_of p).passage x ≡ Some pass → (k : ℕ) → k < hop_count pass →
      Among (sequences_of (row_of (world_of p) pass k) ((world_of p).hop (hop_at pass k)).resp) (calls_of x (entries_at (Hop (hop_at pass k)) h))

-- At the end: each access has one Take, an Acquire for each of its hops, and one Release more, the last of them freed
pub record HasFreedPayloads (p : Plan) (h : List Entry) : Type 0 where
  pub taken : (x : TxnId) (pass : Passage) → (world_of p).passage x ≡ Some pass → takes x (entries_at (Pool x.initiator) h) ≡ 1
  pub acquired : (x : TxnId) (pass : Passage) → (world_of p).passage x ≡ Some pass → acquires x (entries_at (Pool x.initiator) h) ≡ hop_count pass
  pub freed : (x : TxnId) (pass : Passage) → (world_of p).passage x ≡ Some pass → Finds (Among (numbered h)) (IsFreed x)
  pub released : (x : TxnId) (pass : Passage) → (world_of p).passage x ≡ Some pass → length (release_times x (entries_at (Pool x.initiator) h)) ≡ hop_count pass + 1

-- At the end: its references are released at the times at which it ended on its hops, and the initiator's own one at the end of the first
pub record HasReleaseTimes (p : Plan) (h : List Entry) : Type 0 where
  pub times : (x : TxnId) (pass : Passage) → (world_of p).passage x ≡ Some pass →
      IsPermutation (release_times x (entries_at (Pool x.initiator) h)) (end_time (world_of p) x h pass.hops ∷ end_times (world_of p) x h pass.hops)
