-- What known entries say of a payload on its way, so that a thread may trust what another handed on: whose it is, what it asks
-- for or was answered, which entries are there, and which tickets are left for those to come.
use Rattle.std.specs.Prelude.{ℕ, ◌≡◌, ◌≢◌, ◌+◌, ◌*◌, ◌-◌, ◌<◌, ◌≤◌, List, length, is_some, ◌⊎◌, Option, Some, None, slice_get}
use Rattle.atomic_table.specs.Seated.{TableId}
use Rattle.one_history.specs.declared.entry.Entry.{Entry as HistoryEntry}
use Rattle.tlm_types.specs.declared.words.Command.TheVariants.{Read}
use Rattle.tlm_types.specs.declared.words.ObjectNo.TheVariants.{Memory, Hop, Pool}
use Rattle.tlm_types.specs.declared.words.Phase.TheVariants.{BeginReq}
use Rattle.tlm_types.specs.declared.words.Response.{Response}
use Rattle.tlm_types.specs.declared.words.Response.TheVariants.{Incomplete, AddressError}
use Rattle.tlm_types.specs.declared.words.TxnId.{TxnId}
use Rattle.tlm_types.specs.declared.words.Way.TheVariants.{FourPhase}
use Rattle.tlm_types.specs.declared.entry.Access.{Access}
use Rattle.tlm_types.specs.declared.entry.Content.{Content}
use Rattle.tlm_types.specs.declared.entry.Entry.{Entry}
use Rattle.tlm_types.specs.declared.entry.What.TheVariants.{Access as Accessed, Take}
use Rattle.tlm_model.specs.Plan.{Plan, Initiator, initiators_of}
use Rattle.tlm_model.specs.Requests.{Request, Transport, data_logged, requests_of}
use Rattle.tlm_model.specs.Route.{Route, hops_of, route_of}
use Rattle.generic_payload.specs.Payload.{PayloadView, access_of}
use Rattle.token_book.specs.Account.{Slip}
use Rattle.token_book.specs.Purse.{Purse}
use Rattle.payload_pool.specs.Slots.{name_of}
use Rattle.flow_model.specs.World.{Passage, hop_at, hop_count, row_of}
use Rattle.flow_model.specs.Events.{Among, Event, Finds, IsAcquire, IsPhase}
use Rattle.flow_model.specs.Numbers.{IsResponse, UpIs}
use Rattle.flow_model.specs.Platform.{passage_of, world_of}
use Rattle.cargo_model.specs.declared.cargo.Cargo.{Cargo}
use Rattle.cargo_model.specs.Called.{IsCalled, IsReturned, IsSent}
use Rattle.cargo_model.specs.Counts.{calls_down, request_ends}
use Rattle.cargo_model.specs.Known.{Known, object_number, objects_of}
use Rattle.cargo_model.specs.Stops.{Stop, stop_at}
use Rattle.cargo_model.specs.Tickets.{Numbers, PullsOwed, Stocks}

-- Whether the ticket of the call that brings it to its hop is still in the wallet, or was pulled: a hop carries it only where it was. Going up, it is
-- back once the response is known: so many tickets of the hop are then there for END_RESP, one where it is owed.
pub data Moment : Type 0 where
  Ready : Moment
  There : Moment
  Back : ℕ → Moment

abbrev pub gone : Moment → ℕ
gone Ready = 0
gone There = 1
gone (Back owed) = 1

-- the memory's number in the history, where there is a route
abbrev pub memory_number : Plan → Option Route → Option ℕ
memory_number p None = None
memory_number p (Some r) = Some (object_number p.platform (Memory r.memory))

-- the numbers of the objects that an access adds entries to
abbrev pub numbers_of : Plan → TxnId → Passage → Option Route → Numbers
numbers_of p x pass route = record {
  hop = λ k. object_number p.platform (Hop (hop_at pass k));
  pool = object_number p.platform (Pool x.initiator);
  memory = memory_number p route;
}

-- how many bytes an access logs: a fetch_add its operand and what it finds
abbrev pub logged_by : Access → ℕ
logged_by a = data_logged a.command (length a.sent) + length a.enables

-- a reference of the initiator's pool: a token of the pool's second book, whose owner comes after those of all objects
abbrev pub reference : Plan → TableId → TxnId → ℕ → ℕ → Slip
reference p tokens x position part = record { table = tokens; owner = length (objects_of p.platform) + object_number p.platform (Pool x.initiator); name = name_of position part; amount = 1 }

-- the Take of x at this position
pub record IsTaken (x : TxnId) (position slot : ℕ) (e : Event) : Type 0 where
  pub object : e.object ≡ Pool x.initiator
  pub txn : e.txn ≡ x
  pub what : e.what ≡ Take slot
  pub place : e.position ≡ position

-- of any slot
pub record IsTakenAt (x : TxnId) (position : ℕ) (e : Event) : Type 0 where
  pub slot : ℕ
  pub take : IsTaken x position slot e

-- the payload asks for the access, at this address
abbrev pub Asks : Access → ℕ → PayloadView → Type 0
Asks a address v = access_of v ≡ record a { offset = address }

-- the Access of x that the definitions have for its request, with the payload's status and, of a read, its bytes, which are as many as were asked for
pub record IsServed (x : TxnId) (a : Access) (r : Route) (v : PayloadView) (e : Event) : Type 0 where
  pub object : e.object ≡ Memory r.memory
  pub txn : e.txn ≡ x
  pub status : Response
  pub got : List ℕ
  pub what : e.what ≡ Accessed FourPhase (record a { offset = r.offset }) status got
  pub same_status : v.status ≡ status
  pub same_bytes : a.command ≡ Read → v.bytes ≡ got
  pub long : a.command ≡ Read → length v.bytes ≡ length a.sent

module _ (p : Plan) (tokens : TableId) (K : Event → Type 0) (x : TxnId) (pass : Passage) where
  -- x is a four-phase access that its initiator asks for by known replies
  pub record IsAsked : Type 0 where
    pub passes : passage_of p x ≡ Some pass
    pub initiator : Initiator
    pub is : slice_get (initiators_of p) x.initiator ≡ Some initiator
    pub replies : List Entry
    pub known : (e : Entry) → Among replies e → Finds K (λ f. f.entry ≡ e)
    pub request : Request
    pub asked : slice_get (requests_of p.platform initiator replies) x.seq ≡ Some request
    pub access : Access
    pub transport : request.asked ≡ Transport access
    pub way : pass ≡ record { hops = hops_of p.platform initiator request.address; routed = is_some (route_of p.platform initiator request.address) }

  -- where its address leads, where hop k leads it, and the numbers of its objects
  abbrev pub route_for : IsAsked → Option Route
  route_for asked = route_of p.platform asked.initiator asked.request.address

  abbrev pub stop_for : IsAsked → ℕ → Stop
  stop_for asked k = stop_at p.platform asked.initiator asked.request.address k

  abbrev pub numbers_for : IsAsked → Numbers
  numbers_for asked = numbers_of p x pass (route_for asked)

  -- the reference numbered k of a Take of x
  pub record IsHoldOf (k : ℕ) (hold : Slip) : Type 0 where
    pub position : ℕ
    pub taken : Finds K (IsTakenAt x position)
    pub is : hold ≡ reference p tokens x position k

  -- Whose it is: the transaction's, with references of its Take. A router gives back with the response the hold that it got with the request, so
  -- the hold has a Take of x of its own: that x has only one is known at the end alone.
  pub record IsHeld (k acquired : ℕ) (c : Cargo) : Type 0 where
    pub below : k < hop_count pass
    pub txn : c.baton.txn ≡ x
    pub position : ℕ
    pub taken : Finds K (IsTaken x position c.baton.slot)
    pub own : c.baton.own ≡ reference p tokens x position (16 + acquired)
    pub hold : IsHoldOf k c.hold
    pub room : c.baton.payload.room ≡ 4096

  -- what BEGIN_REQ on hop k stands after
  pub record HasComeDown (k : ℕ) : Type 0 where
    pub acquired : (j : ℕ) → j ≤ k → Finds K (IsAcquire x j)
    pub begun : (j : ℕ) → j < k → Finds K (IsPhase x (hop_at pass j) BeginReq)

  -- what BEGIN_RESP on hop k stands after, but for the Access, and the time from which it may stand
  pub record HasComeUp (k : ℕ) : Type 0 where
    pub acquired : (j : ℕ) → j < hop_count pass → Finds K (IsAcquire x j)
    pub begun : (j : ℕ) → j ≤ k → Finds K (IsPhase x (hop_at pass j) BeginReq)
    pub answered : k + 1 < hop_count pass → Finds K (IsResponse x (hop_at pass (k + 1)))
    pub time : ℕ
    pub up : UpIs (world_of p) K x pass k time

  -- The tickets of hop j that are left on the way down at hop k: above it the END_REQ that is owed has its ticket no more
  pub record LeftDown (m : Moment) (k j left : ℕ) : Type 0 where
    pub above : j < k → left + calls_down (row_of (world_of p) pass j) ≡ 4
    pub here : j ≡ k → left + gone m ≡ 4
    pub below : k < j → left ≡ 4

  -- of hop k on the way up, where the ticket of BEGIN_RESP is still there, where it was pulled, and where the response has come back
  abbrev pub LeftHere : Moment → ℕ → ℕ → Type 0
  LeftHere Ready k left = left + calls_down (row_of (world_of p) pass k) ≡ 4
  LeftHere There k left = IsSent (world_of p) K x pass k left
  LeftHere (Back owed) k left = IsReturned (world_of p) K x pass k owed left

  -- on the way up at hop k: below it the tickets of the whole sequence are gone
  pub record LeftUp (m : Moment) (k j left : ℕ) : Type 0 where
    pub above : j < k → left + calls_down (row_of (world_of p) pass j) ≡ 4
    pub here : j ≡ k → LeftHere m k left
    pub below : k < j → IsCalled (world_of p) K x pass j left

  -- On its way down at hop k: its payload asks for what x asks for, at the address there.
  pub record GoesDown (m : Moment) (k : ℕ) (c : Cargo) : Type 0 where
    pub asked : IsAsked
    pub held : IsHeld k (k + 1) c
    pub come : HasComeDown k
    pub status : c.baton.payload.status ≡ Incomplete
    pub content : Asks asked.access (stop_for asked k).address c.baton.payload
    pub tickets : Stocks tokens (hop_count pass) (numbers_for asked) (LeftDown m k) (2 * hop_count pass - k) 1 (logged_by asked.access) c.baton.wallet

  -- the reply of the definitions: that of the known Access, or without a route an error, and the buffer as it was
  abbrev pub IsReplied : Access → Option Route → PayloadView → Type 0
  IsReplied a None v = (v.status ≡ AddressError) × (v.bytes ≡ a.sent)
  IsReplied a (Some r) v = Finds K (IsServed x a r v)

  -- On its way up at hop k: its payload has the reply.
  pub record GoesUp (m : Moment) (k : ℕ) (c : Cargo) : Type 0 where
    pub asked : IsAsked
    pub held : IsHeld k (hop_count pass) c
    pub come : HasComeUp k
    pub status : c.baton.payload.status ≢ Incomplete
    pub content : IsReplied asked.access (route_for asked) c.baton.payload
    pub tickets : Stocks tokens (hop_count pass) (numbers_for asked) (LeftUp m k) (k + 2) 0 0 c.baton.wallet

-- the cargo with another wallet
abbrev pub with_wallet : Cargo → Purse → Cargo
with_wallet c w = let b = c.baton in record c { baton = record b { wallet = w } }

-- Fetched on hop k by the component below: the ticket of the END_REQ that is owed there was pulled, where the row has one.
pub record IsFetched (p : Plan) (tokens : TableId) (K : Event → Type 0) (x : TxnId) (pass : Passage) (k : ℕ) (c : Cargo) : Type 0 where
  pub before : Purse
  pub down : GoesDown p tokens K x pass There k (with_wallet c before)
  pub pulled : PullsOwed tokens (request_ends (row_of (world_of p) pass k)) ((numbers_for p tokens K x pass down.asked).hop k) before c.baton.wallet

-- Known entries vouch for a cargo of x at the hop of this number: x passes it, and the payload is on its way down there or up.
pub record IsVouched (p : Plan) (tokens : TableId) (number : ℕ) (x : TxnId) (c : Cargo) (known : List (HistoryEntry Content)) : Type 0 where
  pub pass : Passage
  pub hop : ℕ
  pub place : number ≡ object_number p.platform (Hop (hop_at pass hop))
  pub way : GoesDown p tokens (Known p.platform known) x pass There hop c ⊎ GoesUp p tokens (Known p.platform known) x pass There hop c
