-- What contracts see of a port, and what it knows of what it works on.
use Rattle.std.specs.Prelude.{ℕ, ◌≡◌, ◌+◌, ◌*◌, ◌<◌, ◌≤◌, Bool, true, false, List, [], length, Option, Some, None, IfSome, IsSome, slice_get}
use Rattle.std.specs.List.{AllByRecursion}
use Rattle.atomic_table.specs.Seated.{TableId}
use Rattle.one_history.specs.Held.{Held}
use Rattle.one_history.specs.declared.entry.Entry.{Entry}
use Rattle.one_history.specs.declared.view.Frame.{Frame}
use Rattle.tlm_types.specs.declared.entry.Content.{Content}
use Rattle.tlm_types.specs.declared.words.ObjectNo.{ObjectNo}
use Rattle.tlm_types.specs.declared.words.Phase.TheVariants.{BeginReq, EndResp}
use Rattle.tlm_types.specs.declared.words.TlmSync.{TlmSync}
use Rattle.tlm_types.specs.declared.words.TlmSync.TheVariants.{Completed}
use Rattle.tlm_model.specs.declared.platform.Style.TheVariants.{FourPhase}
use Rattle.tlm_model.specs.Plan.{Plan, Initiator, initiators_of}
use Rattle.base_phases.specs.declared.phases.LaneState.TheVariants.{Responding}
use Rattle.traffic_script.specs.Proper.{IsProper}
use Rattle.token_book.specs.Account.{Slip}
use Rattle.token_book.specs.Purse.{Purse, HasPlace, IsOf, bytes_of, left_of}
use Rattle.token_book.specs.Ticket.{IsTicket}
use Rattle.token_book.specs.declared.ticket.Ticket.{Ticket}
use Rattle.generic_payload.specs.Payload.{PayloadView}
use Rattle.region_object.specs.Call.{payload_cost}
use Rattle.shared_object.specs.Steps.{IsNote}
use Rattle.payload_pool.specs.declared.baton.Baton.{Baton}
use Rattle.flow_model.specs.Valid.{HasNoCycle}
use Rattle.flow_model.specs.World.{Passage, hop_at, row_of}
use Rattle.flow_model.specs.Events.{Event, Finds, FindsAt, IsCall}
use Rattle.flow_model.specs.Numbers.{ArrIs, EndIs, IsEnder, RspIs}
use Rattle.flow_model.specs.Platform.{passage_of, world_of}
use Rattle.cargo_model.specs.declared.cargo.Cargo.{Cargo}
use Rattle.cargo_model.specs.Called.{IsAnswerIn}
use Rattle.cargo_model.specs.Counts.{responses}
use Rattle.cargo_model.specs.Known.{Known, object_number, objects_of}
use Rattle.cargo_model.specs.Tickets.{PullsOwed}
use Rattle.cargo_model.specs.Travel.{Back, GoesDown, GoesUp, Ready, There, numbers_for, with_wallet}
use Rattle.cargo_net.specs.Begins.{HasOwedLeg}
use Rattle.cargo_net.specs.Hops.{IsLegOfLane}
use Rattle.plat_net.specs.PoolCalls.{CanStart, CanStow}
use Rattle.port_model.specs.Stages.{count_of}
use Rattle.port_model.specs.Way.{IsUnderWay, Port}
use Rattle.port_end.specs.Arrives.{StandBelow, events_of}
use Rattle.script_engine.specs.declared.part.Part.{Part}
use Rattle.script_engine.specs.declared.part.Part.TheVariants.{Asks}
use Rattle.script_engine.specs.State.{State, next_of, payload_of}
use Rattle.initiator_run.specs.Left.{bytes_left, leads}
use Rattle.port_moves.specs.Reach.{first_hop, own_pool}
use Rattle.port_moves.specs.declared.hand.Hand.{Hand}
use Rattle.port_moves.specs.declared.hand.Hand.TheVariants.{Free, Taken, Acquired, Begun, Owed, Ended, Released}

-- A port without its note: where its script stands, its times and what had no route (`port`); what it works on (`hand`), and the request that
-- was refused, if there is one (`held`); how many accesses it has room for; its payload for debug reads, and its wallet.
pub record StateView : Type 0 where
  pub port : Port
  pub hand : Hand
  pub held : Option Cargo
  pub room : ℕ
  pub payload : Option PayloadView
  pub wallet : Purse

-- with its note
pub record PortView : Type 0 where
  pub state : StateView
  pub open state use *
  pub note : Held Content Plan

abbrev pub with_note : StateView → Held Content Plan → PortView
with_note state note = record { state = state; note = note }

-- a port that begins: its whole script is before it, and nothing is outstanding
abbrev pub begun_state : State → PayloadView → ℕ → Purse → StateView
begun_state e b room w = record {
  port = record { engine = e; waiting = false; time = 0; latest = 0; away = []; refused = [] };
  hand = Free;
  held = None;
  room = room;
  payload = Some b;
  wallet = w;
}

-- the tickets of its own wallet, object by object
abbrev pub left_at : Plan → Purse → ObjectNo → ℕ
left_at p w o = left_of w (object_number p.platform o)

module _ (frame : Frame Plan) (tokens : TableId) (i : Initiator) (port : Port) (known : List (Entry Content)) where
  abbrev pub knows : Event → Type 0
  knows = Known frame.world.platform known

  -- A request may go down on the first hop, at the current time, which is that of its Take. So may one that was refused there.
  pub record IsReady (c : Cargo) : Type 0 where
    pub own : c.baton.txn.initiator ≡ i.number
    pub pass : Passage
    pub passes : passage_of frame.world c.baton.txn ≡ Some pass
    pub down : GoesDown frame.world tokens knows c.baton.txn pass Ready 0 c
    pub taken : ArrIs (world_of frame.world) knows c.baton.txn pass 0 port.time

  -- A payload was taken and may start, at the current time.
  pub record IsTakenUp (b : Baton) : Type 0 where
    pub start : CanStart frame tokens i.number b port.time known

  -- BEGIN_REQ was made at this time, and its answer has brought the response, which is still to be made at the memory.
  pub record IsBegun (c : Cargo) (at : ℕ) (leg : Option Slip) : Type 0 where
    pub own : c.baton.txn.initiator ≡ i.number
    pub pass : Passage
    pub passes : passage_of frame.world c.baton.txn ≡ Some pass
    pub down : GoesDown frame.world tokens knows c.baton.txn pass There 0 c
    pub answer : TlmSync
    pub made : FindsAt knows (IsCall c.baton.txn (hop_at pass 0) BeginReq answer) at
    pub fits : IsAnswerIn (row_of (world_of frame.world) pass 0) answer
    pub responds : responses (row_of (world_of frame.world) pass 0) answer ≡ 0
    pub leg_of : HasOwedLeg frame tokens (first_hop frame.world i.number) known c.baton.txn answer leg

  -- Its response is back, with the ticket of END_RESP, for which the leg is, and which may be made at this time.
  pub record IsOwed (c : Cargo) (leg : Slip) (at : ℕ) : Type 0 where
    pub pass : Passage
    pub passes : passage_of frame.world c.baton.txn ≡ Some pass
    pub up : GoesUp frame.world tokens knows c.baton.txn pass (Back 1) 0 c
    pub own : c.baton.txn.initiator ≡ i.number
    pub leg_of : IsLegOfLane frame tokens (first_hop frame.world i.number) known c.baton.txn Responding leg
    pub least : RspIs (world_of frame.world) knows c.baton.txn pass 0 at

  -- It has ended on the first hop at this time: the END_RESP that was owed is made, and its ticket was pulled. Its wallet had this before.
  pub record IsEnded (c : Cargo) (end : ℕ) : Type 0 where
    pub pass : Passage
    pub passes : passage_of frame.world c.baton.txn ≡ Some pass
    pub owed : ℕ
    pub few : owed < 2
    pub before : Purse
    pub up : GoesUp frame.world tokens knows c.baton.txn pass (Back owed) 0 (with_wallet c before)
    pub own : c.baton.txn.initiator ≡ i.number
    pub pulls : PullsOwed tokens owed ((numbers_for frame.world tokens knows c.baton.txn pass up.asked).hop 0) before c.baton.wallet
    pub made : 0 < owed → Finds knows (IsCall c.baton.txn (hop_at pass 0) EndResp Completed)
    pub ender : Finds knows (IsEnder c.baton.txn (hop_at pass 0))
    pub time : EndIs (world_of frame.world) knows c.baton.txn pass 0 end

  -- The port has it back. What is left is to stow the payload.
  pub record IsReleased (b : Baton) (ticket : Ticket) (end : ℕ) : Type 0 where
    pub stow : CanStow frame tokens i.number b end known
    pub of : IsTicket tokens (own_pool frame.world i.number) ticket

  -- what is known of what a port works on
  abbrev pub IsInHand : Hand → Type 0
  IsInHand Free = Unit {0}
  IsInHand (Taken b) = IsTakenUp b
  IsInHand (Acquired c) = IsReady c
  IsInHand (Begun c at leg) = IsBegun c at leg
  IsInHand (Owed c leg at) = IsOwed c leg at
  IsInHand (Ended c end) = IsEnded c end
  IsInHand (Released b ticket end) = IsReleased b ticket end

  -- and of a request that was refused
  abbrev pub IsHeld : Option Cargo → Type 0
  IsHeld None = Unit {0}
  IsHeld (Some c) = IsReady c

abbrev pub bytes_while : Plan → Initiator → ℕ → Bool → State → Part → ℕ
bytes_while p i m true e (Asks x) = payload_cost (payload_of e 4096) * leads p i m x.address
bytes_while p i m waiting e part = 0

-- the bytes of the access that the engine waits for, which were taken with it
abbrev pub bytes_under : Plan → Initiator → ℕ → Port → ℕ
bytes_under p i m port = bytes_while p i m port.waiting port.engine (next_of port.engine)

-- nothing goes down where a request is held that was refused: it is tried before anything else is taken
abbrev pub GoesBack : Hand → Type 0
GoesBack (Taken b) = ⊥
GoesBack (Acquired c) = ⊥
GoesBack (Begun c at leg) = ⊥
GoesBack hand = Unit {0}

-- A port of this history and of these tokens: a four-phase initiator of the plan under way by all that its note knows, and what is known of
-- what it works on.
pub record IsPort (table tokens : TableId) (frame : Frame Plan) (v : PortView) : Type 0 where
  pub no_cycle : HasNoCycle frame.world.platform
  pub initiator : Initiator
  pub is : slice_get (initiators_of frame.world) v.port.engine.initiator ≡ Some initiator
  pub style : initiator.row.style ≡ FourPhase
  pub number : initiator.number ≡ v.port.engine.initiator
  pub note_of : IsNote table v.note
  pub below : StandBelow v.note.knows.known v.note.knows.seen
  pub wallet_of : IsOf tokens v.wallet
  -- it has a place for each object, and holds tickets of no others; and it has the bytes of all that the script is still to ask for
  pub places : v.wallet.places ≡ length (objects_of frame.world.platform)
  pub few_places : (o : ℕ) → HasPlace v.wallet o → o < length (objects_of frame.world.platform)
  pub bytes : (m : ℕ) → m < length frame.world.platform.memories → bytes_left frame.world initiator m v.port.engine ≤ bytes_of v.wallet m + bytes_under frame.world initiator m v.port
  pub way : IsUnderWay frame.world initiator v.port (events_of frame.world.platform v.note.knows.known) v.note.knows.seen (left_at frame.world v.wallet)
  pub in_hand : IsInHand frame tokens initiator v.port v.note.knows.known v.hand
  pub is_held : IsHeld frame tokens initiator v.port v.note.knows.known v.held
  pub alone : (c : Cargo) → v.held ≡ Some c → GoesBack v.hand
  pub payload : IfSome v.payload (λ (b : PayloadView). b.room ≡ 4096)
  pub has_payload : IsSome v.payload
  -- all of its script may be outstanding at once, or refused: that no more are than its pool has slots is known to nobody but the pool
  pub roomy : count_of initiator ≤ v.room
  -- what is left of its script is proper, as all scripts of a valid plan are
  pub proper : AllByRecursion IsProper v.port.engine.remaining

-- what is known of a hand of it
abbrev pub IsHandOf : Frame Plan → TableId → PortView → Hand → Type 0
IsHandOf frame tokens v hand = (i : Initiator) → slice_get (initiators_of frame.world) v.port.engine.initiator ≡ Some i → IsInHand frame tokens i v.port v.note.knows.known hand
