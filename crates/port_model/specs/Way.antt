-- What a four-phase initiator knows and holds between any two of its moves.
use Rattle.std.specs.Prelude.{ℕ, ◌≡◌, ◌+◌, ◌<◌, ◌≤◌, IsTrue, Bool, true, false, List, [], ◌++◌, length, map, Some, None, IsSome, get_or, slice_get}
use Rattle.std.specs.List.{filter}
use Rattle.view_lists.specs.Lists.{AreDistinct, Has}
use Rattle.tlm_types.specs.declared.ends.RefusedItem.{RefusedItem}
use Rattle.tlm_types.specs.declared.words.ObjectNo.{ObjectNo}
use Rattle.tlm_types.specs.declared.words.ObjectNo.TheVariants.{Memory}
use Rattle.tlm_types.specs.declared.words.TxnId.{TxnId}
use Rattle.tlm_types.specs.declared.entry.Access.{Access}
use Rattle.tlm_types.specs.declared.entry.Entry.{Entry}
use Rattle.tlm_model.specs.Plan.{Plan, Initiator}
use Rattle.tlm_model.specs.Requests.{Transport, Request, requests_of, has_no_route}
use Rattle.tlm_model.specs.Route.{route_of}
use Rattle.tlm_model.specs.Scripts.{is_answer}
use Rattle.flow_model.specs.World.{Passage, hop_at, hop_count}
use Rattle.flow_model.specs.Events.{Among, Event, Finds, FindsAt, IsTake}
use Rattle.flow_model.specs.Issue.{current_from, issues_from, settled}
use Rattle.flow_model.specs.Numbers.{EndIs, IsEnder}
use Rattle.flow_model.specs.Platform.{passage_of, world_of}
use Rattle.report_model.specs.Ends.{refused_at}
use Rattle.joined_traffic.specs.Accesses.{sum_below, txn_of}
use Rattle.flow_model.specs.Called.{HasCalled}
use Rattle.joined_traffic.specs.Issued.{EndsBefore, HasReply, IsMadeFor}
use Rattle.script_engine.specs.State.{State, is_fenced, op_of, payload_of}
use Rattle.script_engine.specs.Asking.{asked_by, numbers_at, requests_at}
use Rattle.port_model.specs.Stages.{HasTickets, IsBack, Stage, ahead, count_of, end_by, outstanding_by}
use Rattle.port_model.specs.Stages.Stage.{Ahead, Under, Back}
use Rattle.port_model.specs.Issues.{current_at, issues_at}
use Rattle.port_model.specs.Closings.{HaveReturned, IsClosingOf, invalidates_at, open_gates}

-- What a port has in hand: where its script stands, and whether the access that the engine waits for is under way; the current time, the
-- greatest end so far, the numbers of the accesses that are outstanding, and what had no route.
pub record Port : Type 0 where
  pub engine : State
  pub waiting : Bool
  pub time : ℕ
  pub latest : ℕ
  pub away : List ℕ
  pub refused : List RefusedItem

-- what a port waits for is one request more that it has made
abbrev pub pending : Bool → State → ℕ → ℕ → List Request
pending false e u g = []
pending true e u g = asked_by (op_of e) (payload_of e 4096) u g

-- the greatest stage of the requests that it has made
abbrev pub top : Bool → ℕ → ℕ
top false g = g
top true g = g + 1

-- ends of accesses that agree with those that have come back
abbrev pub Agrees : (ℕ → Stage) → (ℕ → ℕ) → Type 0
Agrees stage end = (s : ℕ) → IsBack (stage s) → end s ≡ end_by (stage s)

-- a request is issued at this time, whatever the ends of those accesses are that haven't come back
abbrev pub IsTimeOf : Initiator → (ℕ → Stage) → ℕ → ℕ → Type 0
IsTimeOf i stage s t = (end : ℕ → ℕ) → Agrees stage end → get_or (issues_from end 0 0 i.script) s 0 ≡ t

-- an entry answers the request x
pub record Replied (mine : List Entry) (x : TxnId) : Type 0 where
  pub entry : Entry
  pub has : Has mine entry
  pub of : entry.txn ≡ x
  pub answers : IsTrue (is_answer entry.what)

module _ (p : Plan) (i : Initiator) where
  -- before position n all requests of stages below g have come back
  pub record HasWaitedFor (known : List Event) (made : List Request) (mine : List Entry) (stage : ℕ → Stage) (g n : ℕ) : Type 0 where
    pub back : (j : ℕ) (r : Request) → slice_get made j ≡ Some r → r.stage < g → IsBack (stage j)
    pub answered : (j : ℕ) (r : Request) → slice_get made j ≡ Some r → r.stage < g → IsSome (route_of p.platform i r.address) → HasReply mine n (txn_of i.number j)
    pub ended : (j : ℕ) (r : Request) (pass : Passage) → slice_get made j ≡ Some r → r.stage < g → passage_of p (txn_of i.number j) ≡ Some pass →
        EndsBefore (world_of p) known n (txn_of i.number j) pass (end_by (stage j))

  -- an access that was taken, once all was back for which the initiator waits
  pub record IsBegun (known : List Event) (made : List Request) (mine : List Entry) (stage : ℕ → Stage) (s : ℕ) : Type 0 where
    pub request : Request
    pub asked : slice_get made s ≡ Some request
    pub access : Access
    pub transport : request.asked ≡ Transport access
    pub issued : ℕ
    pub is_issued : IsTimeOf i stage s issued
    pub take : FindsAt (Among known) (IsTake (txn_of i.number s)) issued
    pub waited : HasWaitedFor known made mine stage request.stage take.event.position
    pub returned : HaveReturned known mine s take.event.position

  -- an access that has come back: its calls, and its end on the first hop
  pub record HasReturned (known : List Event) (s : ℕ) (pass : Passage) (end : ℕ) (calls : ℕ → ℕ) : Type 0 where
    pub called : (k : ℕ) → k < hop_count pass → HasCalled (world_of p) (Among known) (txn_of i.number s) pass k (calls (hop_at pass k))
    pub ended : Finds (Among known) (IsEnder (txn_of i.number s) (hop_at pass 0))
    pub time : EndIs (world_of p) (Among known) (txn_of i.number s) pass 0 end

  -- The script has come to here: what was asked for, and what is left to ask for follows whatever is answered next.
  pub record IsAsking (engine : State) (waiting : Bool) (made : List Request) (mine : List Entry) (g : ℕ) : Type 0 where
    pub blocking : ℕ
    pub passed : List Request
    pub is_made : made ≡ passed ++ pending waiting engine blocking g
    pub asked : (m : List Entry) → requests_of p.platform i (mine ++ m) ≡ passed ++ requests_at p.platform i (mine ++ m) blocking g engine
    pub count : length passed ≡ engine.seq
    pub fenced : waiting ≡ true → is_fenced (op_of engine) ≡ true
    pub numbers : numbers_at engine ≡ count_of i
    pub low : (j : ℕ) (r : Request) → slice_get made j ≡ Some r → r.stage ≤ top waiting g

  -- the times of issue have come to here, whatever the ends are that aren't known
  pub record IsIssuing (port : Port) (stage : ℕ → Stage) : Type 0 where
    pub issues : (end : ℕ → ℕ) → Agrees stage end → (k : ℕ) → get_or (issues_from end 0 0 i.script) (port.engine.seq + k) 0 ≡ get_or (issues_at end port.time port.engine) k 0
    pub current : (end : ℕ → ℕ) → Agrees stage end → current_from end 0 0 i.script ≡ current_at end port.time port.engine
    pub latest : port.latest ≡ settled (λ s. end_by (stage s)) (count_of i) 0
    -- who waits for an access has settled its time before
    pub settled : port.waiting ≡ true → port.latest ≤ port.time

  -- each request that was made is under way or back, all others are ahead; those of earlier stages are back
  pub record IsStaged (port : Port) (made : List Request) (stage : ℕ → Stage) (g : ℕ) : Type 0 where
    pub begun : (s : ℕ) → s < length made → stage s ≡ Ahead → ⊥
    pub ahead : (s : ℕ) → length made ≤ s → stage s ≡ Ahead
    pub waits : port.waiting ≡ true → stage port.engine.seq ≡ Under
    pub back : (j : ℕ) (r : Request) → slice_get made j ≡ Some r → r.stage < top port.waiting g → IsBack (stage j)
    -- all others are back where it waits for one
    pub alone : port.waiting ≡ true → (s : ℕ) → s < port.engine.seq → IsBack (stage s)
    pub under : (s : ℕ) → Among port.away s → stage s ≡ Under
    pub outstanding : length port.away ≡ outstanding_by i stage

  -- an entry of a debug read or an invalidation, at its time, once all was back for which the initiator waits
  pub record IsReading (known : List Event) (made : List Request) (mine : List Entry) (stage : ℕ → Stage) (e : Entry) : Type 0 where
    pub request : Request
    pub asked : slice_get made e.txn.seq ≡ Some request
    pub is_issued : IsTimeOf i stage e.txn.seq e.time
    pub waited : HasWaitedFor known made mine stage request.stage e.position
    pub returned : HaveReturned known mine e.txn.seq e.position

  -- An entry was made for a request that the initiator has, by replies that are known. They need not be its own entries: that no other
  -- entries answer its requests is known at the end alone.
  pub record IsReply (known : List Event) (e : Entry) : Type 0 where
    pub replies : List Entry
    pub stand : (f : Entry) → Among replies f → Finds (Among known) (λ g. g.entry ≡ f)
    pub request : Request
    pub asked : slice_get (requests_of p.platform i replies) e.txn.seq ≡ Some request
    pub is : IsMadeFor p i e request

  -- its entries at memories: those of accesses that have come back, of debug reads and of invalidations, with the closings that these have brought
  pub record HasEntries (known : List Event) (made : List Request) (mine : List Entry) (stage : ℕ → Stage) : Type 0 where
    pub within : (e : Entry) → Has mine e → Finds (Among known) (λ f. f.entry ≡ e)
    pub distinct : AreDistinct mine
    pub own : (e : Entry) → Has mine e → e.txn.initiator ≡ i.number
    pub once : (e f : Entry) → Has mine e → Has mine f → e.txn ≡ f.txn → IsTrue (is_answer e.what) → IsTrue (is_answer f.what) → e ≡ f
    pub back : (e : Entry) → Has mine e → IsBack (stage e.txn.seq)
    pub served : (e : Entry) → Has mine e → IsReply known e
    pub reads : (e : Entry) → Has mine e → passage_of p e.txn ≡ None → IsReading known made mine stage e
    pub closings : (e : Entry) → Has mine e → IsClosingOf known mine e

  -- its accesses
  pub record HasAccesses (known : List Event) (made : List Request) (mine : List Entry) (stage : ℕ → Stage) : Type 0 where
    pub begun : (s : ℕ) (pass : Passage) → s < length made → passage_of p (txn_of i.number s) ≡ Some pass → IsBegun known made mine stage s
    pub returned : (s : ℕ) (pass : Passage) (end : ℕ) (calls : ℕ → ℕ) → stage s ≡ Back end calls → passage_of p (txn_of i.number s) ≡ Some pass → HasReturned known s pass end calls
    pub no_end : (s : ℕ) → passage_of p (txn_of i.number s) ≡ None → end_by (stage s) ≡ 0
    pub replied : (s : ℕ) (r : Request) → slice_get made s ≡ Some r → IsBack (stage s) → IsSome (route_of p.platform i r.address) → Replied mine (txn_of i.number s)

  abbrev pub refused_in : (ℕ → ℕ) → List Request → List RefusedItem
  refused_in end made = map (λ r. refused_at r (get_or (issues_from end 0 0 i.script) r.seq 0)) (filter (λ r. has_no_route p.platform i r r.asked) made)

  -- A port under way: the events that its note knows, all below `seen`, and its wallet's tickets.
  pub record IsUnderWay (port : Port) (known : List Event) (seen : ℕ) (left : ObjectNo → ℕ) : Type 0 where
    pub made : List Request
    pub mine : List Entry
    pub stage : ℕ → Stage
    pub step : ℕ
    pub below : (e : Event) → Among known e → e.position < seen
    pub asking : IsAsking port.engine port.waiting made mine step
    pub issuing : IsIssuing port stage
    pub staged : IsStaged port made stage step
    pub has : HasEntries known made mine stage
    pub accesses : HasAccesses known made mine stage
    pub tickets : HasTickets p i stage mine left
    -- its invalidations have returned, and it has a ticket for each gate that those which are to come may have to close
    pub returned : (n : ℕ) → ((e : Event) → Among known e → e.position < n) → HaveReturned known mine (length made) n
    pub closes : (m : ℕ) → IsTrue (invalidates_at p i m) → sum_below (λ s. ahead p i (Memory m) s (stage s)) (count_of i) + open_gates p m known ≤ left (Memory m)
    pub refused : (end : ℕ → ℕ) → Agrees stage end → port.refused ≡ refused_in end made
