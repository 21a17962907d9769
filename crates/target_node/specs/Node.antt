-- A memory behind hops, and what it does in a pump.
use Rattle.std.specs.Prelude.{ℕ, zero, suc, ◌≡◌, ◌⊎◌, ◌<◌, ◌++◌, Bool, true, false, List, [], ◌∷◌, length, Option, Some, None, IfSome, IsSome}
use Rattle.std.specs.List.{AllByRecursion}
use Rattle.atomic_table.specs.Seated.{TableId}
use Rattle.one_history.specs.declared.entry.Entry.{Entry}
use Rattle.one_history.specs.declared.view.Frame.{Frame}
use Rattle.one_history.specs.declared.view.View.{View}
use Rattle.tlm_types.specs.declared.entry.Content.{Content}
use Rattle.tlm_model.specs.declared.platform.Target.TheVariants.{Memory}
use Rattle.tlm_model.specs.Plan.{Plan}
use Rattle.tlm_model.specs.Route.{later}
use Rattle.token_book.specs.declared.ticket.Ticket.{Ticket}
use Rattle.event_queue.specs.EventQueue.{notified}
use Rattle.route_plan.specs.Valid.{hop_count}
use Rattle.plat_net.specs.HopCalls.{CanRespond}
use Rattle.plat_net.specs.Places.{LeadsTo, hop_place, memory_place}
use Rattle.node_hops.specs.Hops.{IsHopTo}
use Rattle.node_hops.specs.Looks.{IsFirst, vain_looks}
use Rattle.node_hops.specs.Steps.{HasNew, IsByNode}
use Rattle.node_hops.specs.Traits.{is_accepting, latency_of}
use Rattle.target_node.specs.Items.{HasResponded, HasServedAt, IsFetchedAs, IsWaiting}
use Rattle.target_node.specs.declared.items.FromHop.{FromHop}
use Rattle.target_node.specs.declared.items.MemoryRequest.{MemoryRequest}
use Rattle.target_node.specs.declared.items.MemoryResponse.{MemoryResponse}
use Rattle.target_node.specs.declared.node.TargetNode.{TargetNode}
use Rattle.node_hops.specs.declared.node.OneStep.{OneStep}
use Rattle.node_hops.specs.declared.node.OneStep.TheVariants.{Finished, Made, Waits}
use Rattle.node_hops.specs.declared.node.Pumped.{Pumped}
use Rattle.node_hops.specs.declared.node.Pumped.TheVariants.{Did, Nothing}

module _ (frame : Frame Plan) (tokens : TableId) where
  -- a request in the queue of a memory waits to be served, and is due after the memory's latency
  pub record IsQueued (memory latency : ℕ) (known : List (Entry Content)) (e : ℕ × MemoryRequest) : Type 0 where
    pub due : e.0 ≡ later e.1.at latency
    pub below : e.1.hop < hop_count frame.world.platform
    pub waits : IsWaiting frame tokens memory known e.1

  -- a response that is held may be sent, on a hop to the memory
  pub record IsToSend (memory : ℕ) (known : List (Entry Content)) (r : MemoryResponse) : Type 0 where
    pub below : r.hop < hop_count frame.world.platform
    pub leads : LeadsTo frame.world.platform r.hop (Memory memory)
    pub can : CanRespond frame tokens r.hop r.leg r.cargo r.due known

  -- The state of a memory behind these hops, by what it knows: all that waits may be served, and the response that it holds may be sent.
  pub record IsTarget (t : TargetNode) (known : List (Entry Content)) : Type 0 where
    pub memory : t.memory < length frame.world.platform.memories
    pub hops : AllByRecursion (λ (h : ℕ). IsHopTo frame.world (Memory t.memory) h) t.hops.items
    pub accepts : t.accepts ≡ is_accepting frame.world.platform (Memory t.memory)
    pub latency : t.latency ≡ latency_of frame.world.platform (Memory t.memory)
    pub queue : AllByRecursion (IsQueued t.memory t.latency known) t.queue.entries
    pub held : IfSome t.held (IsToSend t.memory known)

-- the look of an END_REQ that is owed
abbrev pub end_looks : Plan → ℕ → Bool → List (ℕ × ℕ)
end_looks p hop false = []
end_looks p hop true = (hop_place p hop, 0) ∷ []

-- whether a ticket is there
abbrev pub is_owed : Option Ticket → Bool
is_owed None = false
is_owed (Some ticket) = true

-- A request was fetched from the first hop, in order, at which one waits; from the hops before it none was.
pub record FindsFirst (frame : Frame Plan) (tokens : TableId) (memory : ℕ) (accepts : Bool) (hops : List ℕ) (old new : View Content Plan) (f : FromHop) : Type 0 where
  pub first : IsFirst frame.world 1 hops f.request.hop old.looks new.looks
  pub below : f.request.hop < hop_count frame.world.platform
  pub is : IsFetchedAs frame tokens memory f.request.hop accepts new.known f

abbrev pub HasLooked : Frame Plan → TableId → ℕ → Bool → List ℕ → View Content Plan → View Content Plan → Option FromHop → Type 0
HasLooked frame tokens memory accepts hops old new None = new.looks ≡ old.looks ++ vain_looks frame.world 1 hops
HasLooked frame tokens memory accepts hops old new (Some f) = FindsFirst frame tokens memory accepts hops old new f

module _ (frame : Frame Plan) (tokens : TableId) where
  -- A request was taken in: fetched from the first hop at which one waits, ended there where its memory's mode is so, and put into the queue at
  -- its time plus the latency.
  pub record TakesIn (old new : TargetNode) (was is : View Content Plan) : Type 0 where
    pub before : List ℕ
    pub hop : ℕ
    pub after : List ℕ
    pub hops_are : old.hops.items ≡ before ++ hop ∷ after
    pub request : MemoryRequest
    pub here : request.hop ≡ hop
    pub waits : IsWaiting frame tokens old.memory is.known request
    pub queued : new ≡ record old { queue = (let q = old.queue in record q { entries = notified q.entries request (later request.at old.latency) }) }
    pub looks : is.looks ≡ was.looks ++ vain_looks frame.world 1 before ++ (hop_place frame.world hop, 0) ∷ [] ++ end_looks frame.world hop old.accepts

  -- no request waits at a hop, or the queue has no room
  pub record FindsNone (old new : TargetNode) (was is : View Content Plan) : Type 0 where
    pub same : new ≡ old
    pub why : ((length old.queue.entries ≡ old.queue.room) × (is ≡ was)) ⊎ (is.looks ≡ was.looks ++ vain_looks frame.world 1 old.hops.items)

  abbrev pub HasTakenIn : TargetNode → TargetNode → View Content Plan → View Content Plan → Bool → Type 0
  HasTakenIn old new was is true = TakesIn old new was is
  HasTakenIn old new was is false = FindsNone old new was is

  -- the response that was held was sent
  pub record Sends (old new : TargetNode) (was is : View Content Plan) : Type 0 where
    pub held : MemoryResponse
    pub held_is : old.held ≡ Some held
    pub sent : HasResponded frame tokens held was is None
    pub gone : new ≡ record old { held = None }

  -- or none is held, or it was refused and is held as before
  pub record SendsNot (old new : TargetNode) (was is : View Content Plan) : Type 0 where
    pub none : old.held ≡ None → (new ≡ old) × (is ≡ was)
    pub refused : (held : MemoryResponse) → old.held ≡ Some held → (same : MemoryResponse) × HasResponded frame tokens held was is (Some same) × (new ≡ record old { held = Some same })

  abbrev pub HasSent : TargetNode → TargetNode → View Content Plan → View Content Plan → Bool → Type 0
  HasSent old new was is true = Sends old new was is
  HasSent old new was is false = SendsNot old new was is

  -- the first request of the queue was served, and its response is held
  pub record Serves (old new : TargetNode) (was is : View Content Plan) : Type 0 where
    pub at : ℕ
    pub request : MemoryRequest
    pub rest : List (ℕ × MemoryRequest)
    pub first : old.queue.entries ≡ (at, request) ∷ rest
    pub held : MemoryResponse
    pub served : HasServedAt frame tokens old.latency request is.known held
    pub queued : new ≡ record old { queue = (let q = old.queue in record q { entries = rest }); held = Some held }
    pub look : is.looks ≡ was.looks ++ (memory_place frame.world old.memory, 0) ∷ []

  abbrev pub HasServedFirst : TargetNode → TargetNode → View Content Plan → View Content Plan → Bool → Type 0
  HasServedFirst old new was is true = Serves old new was is
  HasServedFirst old new was is false = (old.queue.entries ≡ []) × (new ≡ old) × (is ≡ was)

  -- A pump did something: it sent the response that was held; or else it took a request in; or else, where no response is held, it served the first
  -- of the queue and tried its response.
  pub record TakesOne (old new : TargetNode) (was is : View Content Plan) : Type 0 where
    pub tried : TargetNode
    pub then : View Content Plan
    pub not_sent : SendsNot old tried was then
    pub takes : TakesIn tried new then is

  pub record ServesOne (old new : TargetNode) (was is : View Content Plan) : Type 0 where
    pub looked : TargetNode
    pub then : View Content Plan
    pub free : old.held ≡ None
    pub none : FindsNone old looked was then
    pub served : TargetNode
    pub after : View Content Plan
    pub serves : Serves looked served then after
    pub sent : Bool
    pub tries : HasSent served new after is sent

  -- or there was nothing that it could do: a response is held and was refused, or none is held and the queue is empty
  pub record DoesNothing (old new : TargetNode) (was is : View Content Plan) : Type 0 where
    pub tried : TargetNode
    pub then : View Content Plan
    pub not_sent : SendsNot old tried was then
    pub none : FindsNone tried new then is
    pub why : IsSome new.held ⊎ ((new.held ≡ None) × (new.queue.entries ≡ []))

  -- requests were taken in, so many, each where no response was sent and where it is no entry
  abbrev pub TakesSome : ℕ → TargetNode → TargetNode → View Content Plan → View Content Plan → Type 0
  TakesSome zero old new was is = (new ≡ old) × (is ≡ was)
  TakesSome (suc n) old new was is = (first : TargetNode) × (then : View Content Plan) × TakesSome n old first was then × (first.accepts ≡ false) × TakesOne first new then is

  -- A step waits: requests were taken in, if any, and then there was nothing that it could do.
  pub record HasWaited (old new : TargetNode) (was is : View Content Plan) : Type 0 where
    pub taken : ℕ
    pub last : TargetNode
    pub then : View Content Plan
    pub takes : TakesSome taken old last was then
    pub nothing : DoesNothing last new then is

  -- where no response is held and no request was taken in, the first of the queue was served
  pub record ServesNext (old new : TargetNode) (was is : View Content Plan) : Type 0 where
    pub looked : TargetNode
    pub then : View Content Plan
    pub free : old.held ≡ None
    pub none : FindsNone old looked was then
    pub serves : Serves looked new then is

  -- One entry was made: the response that was held was sent; or else a request was taken in with its END_REQ; or else, where no response is held, the
  -- first of the queue was served.
  abbrev pub MakesOne : TargetNode → TargetNode → View Content Plan → View Content Plan → Type 0
  MakesOne old new was is = Sends old new was is ⊎ ((old.accepts ≡ true) × TakesOne old new was is ⊎ ServesNext old new was is)

  -- A step makes an entry: requests were taken in, if any, and then it was made.
  pub record HasMade (old new : TargetNode) (was is : View Content Plan) : Type 0 where
    pub taken : ℕ
    pub last : TargetNode
    pub then : View Content Plan
    pub takes : TakesSome taken old last was then
    pub makes : MakesOne last new then is

  -- What a try of a step came to: an entry of the memory; nothing that it could do; or a request was taken in without an entry, and the step goes on.
  abbrev pub HasTried : TargetNode → TargetNode → View Content Plan → View Content Plan → Option OneStep → Type 0
  HasTried old new was is (Some Made) = MakesOne old new was is × HasNew (IsByNode frame.world (Memory old.memory)) was.known is.known
  HasTried old new was is (Some Waits) = DoesNothing old new was is
  HasTried old new was is (Some Finished) = ⊥
  HasTried old new was is None = (old.accepts ≡ false) × TakesOne old new was is

  abbrev pub HasPumped : TargetNode → TargetNode → View Content Plan → View Content Plan → Pumped → Type 0
  HasPumped old new was is Did = Sends old new was is ⊎ (TakesOne old new was is ⊎ ServesOne old new was is)
  HasPumped old new was is Nothing = DoesNothing old new was is
