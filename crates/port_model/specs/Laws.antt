-- What each move of a port keeps.
use Rattle.std.specs.Prelude.{ℕ, ◌≡◌, ◌⊎◌, ◌+◌, ◌<◌, ◌≤◌, max, IsTrue, true, false, List, [], ◌∷◌, ◌++◌, length, Option, Some, None, IsSome, is_some, slice_get, if◌then◌else◌}
use Rattle.tlm_types.specs.declared.ends.RefusedItem.{RefusedItem}
use Rattle.view_lists.specs.Lists.{AreDistinct, Has}
use Rattle.tlm_types.specs.declared.words.ObjectNo.{ObjectNo}
use Rattle.tlm_types.specs.declared.words.ObjectNo.TheVariants.{Memory}
use Rattle.tlm_types.specs.declared.entry.Entry.{Entry}
use Rattle.tlm_model.specs.History.{entries_at}
use Rattle.tlm_model.specs.Plan.{Plan, Initiator, initiators_of}
use Rattle.tlm_model.specs.Requests.{Request, got_in, has_no_route}
use Rattle.tlm_model.specs.Scripts.{is_answer}
use Rattle.tlm_model.specs.Store.{zeros}
use Rattle.tlm_model.specs.Route.{hops_of, route_of}
use Rattle.tlm_model.specs.declared.ask.Ask.TheVariants.{Access as AnAccess, DebugRead as ADebugRead}
use Rattle.flow_model.specs.World.{Passage}
use Rattle.flow_model.specs.Events.{Among, Event, Finds, FindsAt, IsTake}
use Rattle.flow_model.specs.Platform.{passage_of}
use Rattle.report_model.specs.Ends.{refused_at}
use Rattle.joined_traffic.specs.Accesses.{txn_of}
use Rattle.route_plan.specs.Counted.{share_at}
use Rattle.script_engine.specs.declared.part.Part.TheVariants.{Asks, Invalidates, Pauses}
use Rattle.script_engine.specs.declared.part.Pause.{Pause}
use Rattle.script_engine.specs.declared.part.Transfer.{Transfer}
use Rattle.script_engine.specs.declared.part.TransferKind.{TransferKind}
use Rattle.script_engine.specs.declared.part.TransferKind.TheVariants as transfer
use Rattle.script_engine.specs.Part.{is_fenced_kind}
use Rattle.script_engine.specs.State.{begun_engine, next_of, op_of, passed_by, payload_of, told_by}
use Rattle.script_engine.specs.Asking.{IsAnswered, request_for, time_past_pause}
use Rattle.port_model.specs.Stages.{made_at, price, price_of}
use Rattle.port_model.specs.Issues.{IsPlainKind, IsWaitingOp}
use Rattle.port_model.specs.Closings.{HaveReturned, IsClosingOf, invalidates_at, open_gates}
use Rattle.port_model.specs.Way.{HasReturned, IsReply, IsUnderWay, Port}

-- a request without a route is told as refused, with its time of issue
abbrev pub refused_for : Plan → Initiator → Request → ℕ → List RefusedItem
refused_for p i q t = if has_no_route p.platform i q q.asked then refused_at q t ∷ [] else []

-- a list of events knows what another knows
abbrev pub Knows : List Event → List Event → Type 0
Knows known more = (e : Event) → Among known e → Among more e

-- all known events stand below this position
abbrev pub AreBelow : List Event → ℕ → Type 0
AreBelow known seen = (e : Event) → Among known e → e.position < seen

-- More is known: what acquires, calls, a refused try and a fetch in vain leave to a port.
abbrev pub KnowsMore : Type 0
KnowsMore = (p : Plan) (i : Initiator) (port : Port) (known more : List Event) (seen after : ℕ) (left : ObjectNo → ℕ)
    → IsUnderWay p i port known seen left → Knows known more → AreBelow more after → IsUnderWay p i port more after left

-- The tickets that are planned for what is next are there.
abbrev pub HasPlanned : Type 0
HasPlanned = (p : Plan) (i : Initiator) (port : Port) (known : List Event) (seen : ℕ) (left : ObjectNo → ℕ)
    → IsUnderWay p i port known seen left → port.waiting ≡ false → (s : ℕ) (o : ObjectNo) → s ≡ port.engine.seq → price p i o s ≤ left o

-- its access was taken, by an entry that stands after all that was known
pub record HasTaken (p : Plan) (i : Initiator) (port : Port) (more : List Event) (seen : ℕ) (left rest : ObjectNo → ℕ) : Type 0 where
  pub take : FindsAt (Among more) (IsTake (txn_of i.number port.engine.seq)) port.time
  pub later : seen ≤ take.event.position
  pub pays : (o : ObjectNo) → rest o + price p i o port.engine.seq ≡ left o

-- the request of a transfer that is next, as far as it is told
abbrev pub next_request : Port → Transfer → Request
next_request port x = request_for x (payload_of port.engine 4096) 0 0

-- A plain access is taken and passed.
abbrev pub TakesPlain : Type 0
TakesPlain = (p : Plan) (i : Initiator) (port : Port) (known more : List Event) (seen after : ℕ) (left rest : ObjectNo → ℕ)
    → IsUnderWay p i port known seen left → Knows known more → AreBelow more after → port.waiting ≡ false
    → (x : Transfer) → next_of port.engine ≡ Asks x → IsPlainKind x.kind → HasTaken p i port more seen left rest
    → IsUnderWay p i (record port { engine = passed_by port.engine; away = port.engine.seq ∷ port.away; refused = port.refused ++ refused_for p i (next_request port x) port.time }) more after rest

-- nothing is outstanding, and the current time is settled
pub record HasSettled (port : Port) : Type 0 where
  pub free : port.waiting ≡ false
  pub none : length port.away ≡ 0
  pub settled : port.latest ≤ port.time

-- An access that the engine waits for is taken: of a copy or an add.
abbrev pub TakesFenced : Type 0
TakesFenced = (p : Plan) (i : Initiator) (port : Port) (known more : List Event) (seen after : ℕ) (left rest : ObjectNo → ℕ)
    → IsUnderWay p i port known seen left → Knows known more → AreBelow more after → HasSettled port
    → (x : Transfer) → next_of port.engine ≡ Asks x → is_fenced_kind x.kind ≡ true → HasTaken p i port more seen left rest
    → IsUnderWay p i (record port { waiting = true; away = port.engine.seq ∷ port.away; refused = port.refused ++ refused_for p i (next_request port x) port.time }) more after rest

-- the number s is taken off a list that has it once
pub record Removes (away : List ℕ) (s : ℕ) (fewer : List ℕ) : Type 0 where
  pub had : Among away s
  pub count : length fewer + 1 ≡ length away
  pub others : (k : ℕ) → Among fewer k → Among away k × (k ≡ s → ⊥)

abbrev pub replies_of : Option Entry → List Entry
replies_of None = []
replies_of (Some e) = e ∷ []

-- an entry at a memory that was made for request s
pub record IsEntryFor (p : Plan) (i : Initiator) (more : List Event) (s : ℕ) (e : Entry) : Type 0 where
  pub txn : e.txn ≡ txn_of i.number s
  pub stands : Finds (Among more) (λ f. f.entry ≡ e)
  pub reply : IsReply p i more e

-- the access or the debug read at a memory that request s was answered with
pub record IsReplyTo (p : Plan) (i : Initiator) (more : List Event) (s : ℕ) (e : Entry) : Type 0 where
  pub txn : e.txn ≡ txn_of i.number s
  pub stands : Finds (Among more) (λ f. f.entry ≡ e)
  pub reply : IsReply p i more e
  pub access : IsSome (got_in e.what)

-- An access has come back: its calls and its end are known, and where it has a route its entry at the memory; what it didn't need of its
-- tickets was put back.
pub record ComesBack (p : Plan) (i : Initiator) (made : List Request) (more : List Event) (s : ℕ) (pass : Passage) (reply : Option Entry) (end : ℕ) (calls : ℕ → ℕ) (left rest : ObjectNo → ℕ) : Type 0 where
  pub passes : passage_of p (txn_of i.number s) ≡ Some pass
  pub returned : HasReturned p i more s pass end calls
  pub entry : (e : Entry) → reply ≡ Some e → IsReplyTo p i more s e
  pub routed : (r : Request) → slice_get made s ≡ Some r → IsSome (route_of p.platform i r.address) → IsSome reply
  pub fewer : (o : ObjectNo) → left o ≤ rest o
  pub pays : (o : ObjectNo) → price p i o s + left o ≤ (length (entries_at o (replies_of reply)) + made_at p o (txn_of i.number s) calls) + rest o

-- A plain access has come back: nothing is told.
abbrev pub ReturnsPlain : Type 0
ReturnsPlain = (p : Plan) (i : Initiator) (port : Port) (known more : List Event) (seen after : ℕ) (left rest : ObjectNo → ℕ)
    → (u : IsUnderWay p i port known seen left) → Knows known more → AreBelow more after → port.waiting ≡ false
    → (s : ℕ) (pass : Passage) (reply : Option Entry) (end : ℕ) (calls : ℕ → ℕ) (away : List ℕ) → Removes port.away s away → ComesBack p i u.made more s pass reply end calls left rest
    → IsUnderWay p i (record port { latest = max port.latest end; away = away }) more after rest

-- The access that the engine waits for has come back, and is told.
abbrev pub ReturnsFenced : Type 0
ReturnsFenced = (p : Plan) (i : Initiator) (port : Port) (known more : List Event) (seen after : ℕ) (left rest : ObjectNo → ℕ)
    → (u : IsUnderWay p i port known seen left) → Knows known more → AreBelow more after → port.waiting ≡ true
    → (pass : Passage) (reply : Option Entry) (end : ℕ) (calls : ℕ → ℕ) (away : List ℕ) (got : List ℕ) → Removes port.away port.engine.seq away
    → ComesBack p i u.made more port.engine.seq pass reply end calls left rest
    → ((m : List Entry) → IsAnswered p.platform i ((u.mine ++ replies_of reply) ++ m) (op_of port.engine) got)
    → IsUnderWay p i (record port { engine = told_by port.engine got; waiting = false; latest = max port.latest end; away = away }) more after rest

-- A payload that came back of no access that is away leaves its tickets, and changes nothing else.
abbrev pub KeepsStray : Type 0
KeepsStray = (p : Plan) (i : Initiator) (port : Port) (known more : List Event) (seen after : ℕ) (left rest : ObjectNo → ℕ)
    → IsUnderWay p i port known seen left → Knows known more → AreBelow more after → ((o : ObjectNo) → left o ≤ rest o) → IsUnderWay p i port more after rest

-- Nothing is away and something else than a plain access is next: the current time is settled.
abbrev pub Settles : Type 0
Settles = (p : Plan) (i : Initiator) (port : Port) (known : List Event) (seen : ℕ) (left : ObjectNo → ℕ)
    → IsUnderWay p i port known seen left → port.waiting ≡ false → length port.away ≡ 0 → IsWaitingOp (op_of port.engine)
    → IsUnderWay p i (record port { time = max port.time port.latest }) known seen left

-- A wait, a sync or a fence is passed, once the time is settled.
abbrev pub PassesPause : Type 0
PassesPause = (p : Plan) (i : Initiator) (port : Port) (known : List Event) (seen : ℕ) (left : ObjectNo → ℕ)
    → IsUnderWay p i port known seen left → HasSettled port → (pause : Pause) → next_of port.engine ≡ Pauses pause
    → IsUnderWay p i (record port { engine = passed_by port.engine; time = time_past_pause pause port.time }) known seen left

-- a debug read was made, at the current time, by an entry that stands after all that was known; or it has no route, and there is none
pub record HasRead (p : Plan) (i : Initiator) (port : Port) (x : Transfer) (more : List Event) (seen : ℕ) (reply : Option Entry) (left rest : ObjectNo → ℕ) : Type 0 where
  pub no_access : passage_of p (txn_of i.number port.engine.seq) ≡ None
  pub entry : (e : Entry) → reply ≡ Some e → IsReplyTo p i more port.engine.seq e
  pub time : (e : Entry) → reply ≡ Some e → e.time ≡ port.time
  pub later : (e : Entry) → reply ≡ Some e → seen ≤ e.position
  pub routed : IsSome (route_of p.platform i x.address) → IsSome reply
  pub pays : (o : ObjectNo) → left o ≤ length (entries_at o (replies_of reply)) + rest o
  pub keeps : (o : ObjectNo) → left o ≤ price p i o port.engine.seq + rest o

-- A debug read is passed, once the time is settled.
abbrev pub ReadsDebug : Type 0
ReadsDebug = (p : Plan) (i : Initiator) (port : Port) (known more : List Event) (seen after : ℕ) (left rest : ObjectNo → ℕ) (reply : Option Entry)
    → IsUnderWay p i port known seen left → Knows known more → AreBelow more after → HasSettled port
    → (x : Transfer) → next_of port.engine ≡ Asks x → x.kind ≡ transfer.DebugRead → HasRead p i port x more seen reply left rest
    → IsUnderWay p i (record port { engine = passed_by port.engine; refused = port.refused ++ refused_for p i (next_request port x) port.time }) more after rest

-- An object has as many tickets less as the price of what is next; or it is a memory to which an invalidation of the initiator is routed, and one
-- less for each closing besides, by which a gate less is open there.
abbrev pub KeepsTickets : Plan → Initiator → ℕ → List Event → List Event → (ObjectNo → ℕ) → (ObjectNo → ℕ) → ObjectNo → Type 0
KeepsTickets p i s known more left rest o =
    (left o ≤ price p i o s + rest o)
    ⊎ ((m : ℕ) × (o ≡ Memory m) × IsTrue (invalidates_at p i m) × (left o + open_gates p m more ≤ price p i o s + rest o + open_gates p m known))

-- What is next was done at the current time, by these own entries at memories, which stand after all that was known: a debug read, or an
-- invalidation with the closings that it has brought, and by which it has returned. Without a route there are none.
pub record HasDoneAlone (p : Plan) (i : Initiator) (port : Port) (address : ℕ) (known more : List Event) (seen : ℕ) (own : List Entry) (left rest : ObjectNo → ℕ) : Type 0 where
  pub no_access : passage_of p (txn_of i.number port.engine.seq) ≡ None
  pub entry : (e : Entry) → Has own e → IsEntryFor p i more port.engine.seq e
  pub distinct : AreDistinct own
  pub once : (e f : Entry) → Has own e → Has own f → IsTrue (is_answer e.what) → IsTrue (is_answer f.what) → e ≡ f
  pub time : (e : Entry) → Has own e → e.time ≡ port.time
  pub later : (e : Entry) → Has own e → seen ≤ e.position
  pub routed : IsSome (route_of p.platform i address) → (e : Entry) × Has own e × IsTrue (is_answer e.what)
  pub pays : (o : ObjectNo) → left o ≤ length (entries_at o own) + rest o
  pub keeps : (o : ObjectNo) → KeepsTickets p i port.engine.seq known more left rest o
  pub closings : (e : Entry) → Has own e → IsClosingOf more own e
  pub returned : (n : ℕ) → AreBelow more n → HaveReturned more own (port.engine.seq + 1) n

-- An invalidation is passed, once the time is settled.
abbrev pub PassesInvalidation : Type 0
PassesInvalidation = (p : Plan) (i : Initiator) (port : Port) (known more : List Event) (seen after : ℕ) (left rest : ObjectNo → ℕ) (own : List Entry)
    → IsUnderWay p i port known seen left → Knows known more → AreBelow more after → HasSettled port
    → (s a n : ℕ) → next_of port.engine ≡ Invalidates s a n → HasDoneAlone p i port a known more seen own left rest
    → IsUnderWay p i (record port { engine = passed_by port.engine }) more after rest

-- A port that has its script before it, and all that is planned for it.
abbrev pub Begins : Type 0
Begins = (p : Plan) (i : Initiator) (left : ObjectNo → ℕ) → ((o : ObjectNo) → left o ≡ share_at p i.number o) → slice_get (initiators_of p) i.number ≡ Some i
    → IsUnderWay p i (record { engine = begun_engine i.number i.script; waiting = false; time = 0; latest = 0; away = []; refused = [] }) [] 0 left

abbrev pub price_by_kind : Plan → Initiator → ObjectNo → ℕ → TransferKind → ℕ
price_by_kind p i o a (transfer.Access command plain fenced) = price_of p i o (AnAccess a 0)
price_by_kind p i o a transfer.DebugRead = price_of p i o (ADebugRead a 0)

-- how many entries a transfer may add to an object, by its address
abbrev pub price_for : Plan → Initiator → ObjectNo → Transfer → ℕ
price_for p i o x = price_by_kind p i o x.address x.kind

-- The price of a transfer that is next is that of its address.
abbrev pub IsPriced : Type 0
IsPriced = (p : Plan) (i : Initiator) (port : Port) (known : List Event) (seen : ℕ) (left : ObjectNo → ℕ)
    → IsUnderWay p i port known seen left → (x : Transfer) → next_of port.engine ≡ Asks x → (o : ObjectNo) → price p i o port.engine.seq ≡ price_for p i o x

-- An access that was made passes the way of its address.
abbrev pub PassesItsWay : Type 0
PassesItsWay = (p : Plan) (i : Initiator) (port : Port) (known : List Event) (seen : ℕ) (left : ObjectNo → ℕ)
    → (u : IsUnderWay p i port known seen left) → slice_get (initiators_of p) i.number ≡ Some i
    → (s : ℕ) (r : Request) (pass : Passage) → slice_get u.made s ≡ Some r → passage_of p (txn_of i.number s) ≡ Some pass
    → pass ≡ record { hops = hops_of p.platform i r.address; routed = is_some (route_of p.platform i r.address) }

-- the bytes of the payload of a transfer that came back are those of the reply: of its entry at the memory, or without a route zeros
pub record HasBytes (p : Plan) (i : Initiator) (port : Port) (x : Transfer) (reply : Option Entry) (got : List ℕ) : Type 0 where
  pub long : length got ≡ x.length
  pub with_route : (e : Entry) → reply ≡ Some e → (e.txn ≡ txn_of i.number port.engine.seq) × (got_in e.what ≡ Some got) × IsSome (route_of p.platform i x.address)
  pub without : reply ≡ None → (route_of p.platform i x.address ≡ None) × (got ≡ zeros x.length)

-- So the reply answers the access that the engine waits for, whatever comes after it.
abbrev pub RepliesAnswer : Type 0
RepliesAnswer = (p : Plan) (i : Initiator) (port : Port) (known : List Event) (seen : ℕ) (left : ObjectNo → ℕ) (reply : Option Entry) (got : List ℕ)
    → (u : IsUnderWay p i port known seen left) → port.waiting ≡ true → (x : Transfer) → next_of port.engine ≡ Asks x → HasBytes p i port x reply got
    → (m : List Entry) → IsAnswered p.platform i ((u.mine ++ replies_of reply) ++ m) (op_of port.engine) got
