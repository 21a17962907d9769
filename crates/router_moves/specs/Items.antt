-- What a router knows of the requests that it fetched, of those that it passes on, and of the responses that it is to send.
use Rattle.std.specs.Prelude.{ℕ, ◌≡◌, ◌+◌, ◌-◌, ◌<◌, ◌⊎◌, false, IsTrue, List, Option, Some, None, slice_get}
use Rattle.atomic_table.specs.Seated.{TableId}
use Rattle.one_history.specs.declared.entry.Entry.{Entry}
use Rattle.one_history.specs.declared.view.Frame.{Frame}
use Rattle.tlm_types.specs.declared.entry.Content.{Content}
use Rattle.tlm_types.specs.declared.words.Phase.TheVariants.{BeginReq, EndReq}
use Rattle.tlm_types.specs.declared.words.ReqMode.TheVariants.{Accept}
use Rattle.tlm_types.specs.declared.words.TlmSync.{TlmSync}
use Rattle.tlm_types.specs.declared.words.TlmSync.TheVariants.{Accepted}
use Rattle.tlm_types.specs.declared.words.TxnId.{TxnId}
use Rattle.tlm_model.specs.declared.platform.Platform.{Platform}
use Rattle.tlm_model.specs.declared.platform.RouterRow.{RouterRow}
use Rattle.tlm_model.specs.declared.platform.Target.TheVariants.{Router}
use Rattle.tlm_model.specs.Plan.{Plan}
use Rattle.tlm_model.specs.Route.{Found, window_hop, window_of}
use Rattle.base_phases.specs.declared.phases.LaneState.{LaneState}
use Rattle.base_phases.specs.declared.phases.LaneState.TheVariants.{Free, Requested, Waiting, Responding}
use Rattle.base_phases.specs.Phases.{next_state}
use Rattle.token_book.specs.Account.{Slip}
use Rattle.token_book.specs.Ticket.{IsTicket}
use Rattle.token_book.specs.declared.ticket.Ticket.{Ticket}
use Rattle.flow_model.specs.World.{Passage, hop_at, hop_count, row_of}
use Rattle.flow_model.specs.Events.{Event, Finds, FindsAt, IsAccess, IsCall, IsTake}
use Rattle.flow_model.specs.Numbers.{ArrIs, EndIs, IsEnder, ReqIs, UpIs}
use Rattle.flow_model.specs.Platform.{passage_of, world_of}
use Rattle.cargo_model.specs.Called.{IsAnswerIn}
use Rattle.cargo_model.specs.Counts.{responses}
use Rattle.cargo_model.specs.Known.{Known}
use Rattle.cargo_model.specs.Travel.{Back as IsBackAt, GoesDown, GoesUp, IsHoldOf, Ready, There}
use Rattle.cargo_net.specs.Begins.{HasOwedLeg}
use Rattle.cargo_net.specs.Hops.{IsLegOfLane}
use Rattle.plat_net.specs.Places.{LeadsTo, hop_place, own_pool}
use Rattle.router_moves.specs.declared.items.Back.{Back}
use Rattle.router_moves.specs.declared.items.BegunBelow.{BegunBelow}
use Rattle.router_moves.specs.declared.items.Down.{Down}
use Rattle.router_moves.specs.declared.items.End.{End}
use Rattle.router_moves.specs.declared.items.End.TheVariants.{Owed, At}
use Rattle.router_moves.specs.declared.items.PassedOn.{PassedOn}
use Rattle.router_moves.specs.declared.items.RouterRequest.{RouterRequest}
use Rattle.router_moves.specs.declared.items.Rest.{Rest}
use Rattle.router_moves.specs.declared.items.WayBehind.{WayBehind}

-- what is behind the window of a router that was found
abbrev pub way_over : Platform → ℕ → ℕ → Option Found → Option WayBehind
way_over p r a None = None
way_over p r a (Some f) = Some (record { hop = window_hop p r f.index; address = a - f.window.first + f.window.base })

-- behind the one that has the address
abbrev pub way_in : Platform → ℕ → ℕ → Option RouterRow → Option WayBehind
way_in p r a None = None
way_in p r a (Some row) = way_over p r a (window_of 0 row.windows a)

abbrev pub way_of : Plan → ℕ → ℕ → Option WayBehind
way_of p router a = way_in p.platform router a (slice_get p.platform.routers router)

module _ (frame : Frame Plan) (tokens : TableId) (known : List (Entry Content)) where
  abbrev pub knows : Event → Type 0
  knows = Known frame.world.platform known

  -- A request was fetched from a hop to this router: its payload is on its way down, the leg of its lane is there, and its BEGIN_REQ is known, with
  -- its time and with an answer that the row has, that left the response to come, and that led to the lane's state.
  pub record IsRequest (router : ℕ) (r : RouterRequest) : Type 0 where
    pub pass : Passage
    pub hop : ℕ
    pub here : hop_at pass hop ≡ r.hop
    pub leads : LeadsTo frame.world.platform r.hop (Router router)
    pub down : GoesDown frame.world tokens knows r.cargo.baton.txn pass There hop r.cargo
    pub state : LaneState
    pub leg_of : IsLegOfLane frame tokens (hop_place frame.world r.hop) known r.cargo.baton.txn state r.leg
    pub open_lane : (state ≡ Requested) ⊎ (state ≡ Waiting)
    pub answer : TlmSync
    pub begun : FindsAt knows (IsCall r.cargo.baton.txn (hop_at pass hop) BeginReq answer) r.at
    pub fits : IsAnswerIn (row_of (world_of frame.world) pass hop) answer
    pub responds : responses (row_of (world_of frame.world) pass hop) answer ≡ 1
    pub leads_to : next_state Free BeginReq answer ≡ Some state

  -- END_REQ on hop k is owed, with its ticket; or it isn't, and is known where the row has one.
  abbrev pub HasDebt : TxnId → Passage → ℕ → LaneState → Option Ticket → Type 0
  HasDebt x pass k state (Some ticket) = IsTicket tokens (hop_place frame.world (hop_at pass k)) ticket × (state ≡ Requested) × (row_of (world_of frame.world) pass k ≡ Accept)
  HasDebt x pass k state None = ((state ≡ Requested) ⊎ (state ≡ Waiting)) × (row_of (world_of frame.world) pass k ≡ Accept → Finds knows (IsCall x (hop_at pass k) EndReq Accepted))

  -- A router holds a transaction, which it fetched from hop k of its way and passes on to the next: the leg above, whose lane is in this state, the
  -- reference that came with the request, and whether END_REQ is owed above.
  pub record IsHeld (h : PassedOn) (pass : Passage) (k : ℕ) (state : LaneState) : Type 0 where
    pub passes : passage_of frame.world h.txn ≡ Some pass
    pub next : k + 1 < hop_count pass
    pub above : hop_at pass k ≡ h.above
    pub below : hop_at pass (k + 1) ≡ h.below
    pub router : ((world_of frame.world).hop (hop_at pass k)).to_memory ≡ false
    pub taken : Finds knows (IsTake h.txn)
    pub answer : TlmSync
    pub begun : Finds knows (IsCall h.txn (hop_at pass k) BeginReq answer)
    pub fits : IsAnswerIn (row_of (world_of frame.world) pass k) answer
    pub responds : responses (row_of (world_of frame.world) pass k) answer ≡ 1
    pub leg_of : IsLegOfLane frame tokens (hop_place frame.world h.above) known h.txn state h.leg
    pub kept : IsHoldOf frame.world tokens knows h.txn pass k h.kept
    pub debt : HasDebt h.txn pass k state h.owed

  -- Its request may go down, not before the time at which it leaves the router.
  pub record IsDown (d : Down) : Type 0 where
    pub pass : Passage
    pub hop : ℕ
    pub state : LaneState
    pub held : IsHeld d.held pass hop state
    pub down : GoesDown frame.world tokens knows d.held.txn pass Ready (hop + 1) d.cargo
    pub least : ArrIs (world_of frame.world) knows d.held.txn pass (hop + 1) d.due

  -- A router holds it.
  pub record IsHolding (h : PassedOn) : Type 0 where
    pub pass : Passage
    pub hop : ℕ
    pub state : LaneState
    pub held : IsHeld h pass hop state

  -- BEGIN_REQ was made below at this time.
  pub record HasGone (h : PassedOn) (at : ℕ) : Type 0 where
    pub pass : Passage
    pub hop : ℕ
    pub state : LaneState
    pub held : IsHeld h pass hop state
    pub begun : ReqIs (world_of frame.world) knows h.txn (hop_at pass (hop + 1)) at

  -- Its answer brought the response, which is still to be made at the memory.
  pub record IsBegun (h : PassedOn) (b : BegunBelow) : Type 0 where
    pub pass : Passage
    pub hop : ℕ
    pub state : LaneState
    pub held : IsHeld h pass hop state
    pub down : GoesDown frame.world tokens knows h.txn pass There (hop + 1) b.cargo
    pub answer : TlmSync
    pub made : FindsAt knows (IsCall h.txn (hop_at pass (hop + 1)) BeginReq answer) b.at
    pub fits : IsAnswerIn (row_of (world_of frame.world) pass (hop + 1)) answer
    pub responds : responses (row_of (world_of frame.world) pass (hop + 1)) answer ≡ 0
    pub leg_of : HasOwedLeg frame tokens (hop_place frame.world (hop_at pass (hop + 1))) known h.txn answer b.leg

  -- The access has ended on hop k at this time.
  pub record HasEndedAt (x : TxnId) (pass : Passage) (k at : ℕ) : Type 0 where
    pub ender : Finds knows (IsEnder x (hop_at pass k))
    pub time : EndIs (world_of frame.world) knows x pass k at

  -- END_RESP is owed on hop k by a leg, or the access has ended there at this time.
  abbrev pub OwesEnd : TxnId → Passage → ℕ → ℕ → ℕ → Option Slip → Type 0
  OwesEnd x pass k at owed (Some leg) = (owed ≡ 1) × IsLegOfLane frame tokens (hop_place frame.world (hop_at pass k)) known x Responding leg
  OwesEnd x pass k at owed None = (owed ≡ 0) × HasEndedAt x pass k at

  -- Its response is back from the hop below, with the ticket of the END_RESP that is owed there, and may go up at this time.
  pub record IsBack (h : PassedOn) (b : Back) (pass : Passage) (k owed : ℕ) : Type 0 where
    pub up : GoesUp frame.world tokens knows h.txn pass (IsBackAt owed) (k + 1) b.cargo
    pub end : OwesEnd h.txn pass (k + 1) b.at owed b.leg
    pub least : UpIs (world_of frame.world) knows h.txn pass k b.at

  abbrev pub IsEnd : TxnId → Passage → ℕ → End → Type 0
  IsEnd x pass k (Owed leg ticket) = IsLegOfLane frame tokens (hop_place frame.world (hop_at pass k)) known x Responding leg × IsTicket tokens (hop_place frame.world (hop_at pass k)) ticket
  IsEnd x pass k (At time) = HasEndedAt x pass k time

  -- What is to be made on the hop below, which is hop k + 1, once the transaction has ended on hop k.
  pub record IsRest (r : Rest) (pass : Passage) (k : ℕ) : Type 0 where
    pub passes : passage_of frame.world r.txn ≡ Some pass
    pub next : k + 1 < hop_count pass
    pub few : k + 1 < 15
    pub below : hop_at pass (k + 1) ≡ r.below
    pub taken : Finds knows (IsTake r.txn)
    pub served : IsTrue pass.routed → Finds knows (IsAccess r.txn)
    pub end : IsEnd r.txn pass (k + 1) r.end
    pub hold : IsHoldOf frame.world tokens knows r.txn pass (k + 1) r.hold
    pub ticket : IsTicket tokens (own_pool frame.world r.txn.initiator) r.ticket
