-- A hop with its lanes, its log and its book: what holds of it, and what a call makes of it.
use Rattle.std.specs.Prelude.{◌≡◌, ℕ, ◌<◌, ◌≤◌, ◌&&◌, ◌%◌, not, nat_lt, max, Bool, true, false, List, [], ◌∷◌, ◌++◌, length, Option, Some, All, AllPairs}
use Rattle.tlm_types.specs.declared.words.TxnId.{TxnId}
use Rattle.tlm_types.specs.declared.words.ObjectNo.TheVariants.{Hop}
use Rattle.tlm_types.specs.declared.words.Phase.{Phase}
use Rattle.tlm_types.specs.declared.words.Phase.TheVariants.{BeginReq, BeginResp}
use Rattle.tlm_types.specs.declared.words.TlmSync.{TlmSync}
use Rattle.tlm_types.specs.declared.entry.What.TheVariants.{Call}
use Rattle.tlm_types.specs.declared.entry.Content.{Content}
use Rattle.base_phases.specs.declared.phases.LaneState.{LaneState}
use Rattle.base_phases.specs.declared.phases.LaneState.TheVariants.{Free}
use Rattle.base_phases.specs.Phases.{next_state}
use Rattle.token_book.specs.Account.{Account, Slip, out_of, issued, retired, slip}
use Rattle.shared_object.specs.Written.{logged, wrote}
use Rattle.flow_model.specs.Answers.{request_answer, is_requested}
use Rattle.flow_model.specs.Board.{Board, Rules, start, request_end_after, response_end_after, Reaches}
use Rattle.flow_model.specs.Events.{Among, Event, Finds, IsPhase, entries}
use Rattle.flow_model.specs.Marked.{ReachesMarked, unmarked}
use Rattle.numbered_log.specs.Logged.{event_of, with_event, IsBefore}
use Rattle.hop_object.specs.declared.lane.Lane.{Lane}
use Rattle.hop_object.specs.declared.lane.Side.{Side}
use Rattle.hop_object.specs.declared.lane.Side.TheVariants.{Down, Up}
use Rattle.hop_object.specs.States.{number_of_state, state_by}
use Rattle.hop_object.specs.View.{HopView}
use Rattle.hop_object.specs.Lanes.{any_requested, any_responding, legs_out, name_at, opens, waits, HasPosition}

-- what the entry of a call says, with its mark
abbrev pub call_content : TxnId → ℕ → Phase → TlmSync → ℕ → Content
call_content txn time phase answer mark = record { txn = txn; time = time; what = Call phase answer; number = mark }

-- the entry of a call on the hop of this number, with its mark
abbrev pub hop_entry : ℕ → ℕ → TxnId → ℕ → Phase → TlmSync → ℕ → Event
hop_entry number position txn time phase answer mark = event_of (logged (Hop number) (wrote position (call_content txn time phase answer mark))) mark

-- the leg of a lane, and the book that it is then out of
abbrev pub leg_at : Account → ℕ → LaneState → Slip
leg_at book position state = slip book (name_at position state) 1

abbrev pub leg_out : Account → ℕ → LaneState → Account
leg_out book position state = issued book (name_at position state) 1

-- the phase that brings an item to a side
abbrev pub phase_to : Side → Phase
phase_to Down = BeginReq
phase_to Up = BeginResp

-- its answer leads to this state of the lane
abbrev pub LeadsToState : Side → TlmSync → LaneState → Type 0
LeadsToState Down answer state = next_state Free BeginReq answer ≡ Some state
LeadsToState Up answer state = state_by answer ≡ state

module _ {T : Type 0} where
  abbrev pub rules_of : HopView T → Rules
  rules_of v = record { limit = v.traits.lanes; req = v.traits.req; resp = v.traits.resp }

  -- the board of the model
  abbrev pub board_of : HopView T → Board
  board_of v = record { lanes = opens v.lanes; request_end = v.request_end; response_end = v.response_end }

  -- the call with which a lane's item came, where the lane's last call stands
  pub record IsSentBy (number : ℕ) (side : Side) (l : Lane T) (e : Event) : Type 0 where
    pub phase : IsPhase l.txn number (phase_to side) e
    pub leads : LeadsToState side phase.answer l.state
    pub place : e.position ≡ l.latest
    pub time : e.time ≡ l.last

  -- if the lane's item waits at a side, the call with which it came is among these entries
  abbrev pub HasSent : ℕ → List Event → Lane T → Type 0
  HasSent number es l = (side : Side) → waits side l ≡ true → Finds (Among es) (IsSentBy number side l)

  -- the lanes are those of the log: by its entries, with their marks, the model reaches them. Each entry is of the hop, and stands past those
  -- before it. The log has the call with which each item came that waits, also where its transaction has ended
  pub record Follows (v : HopView T) : Type 0 where
    pub reached : ReachesMarked (rules_of v) start v.log.events (board_of v)
    pub ordered : AllPairs IsBefore v.log.events
    pub own : All (λ (e : Event). e.object ≡ Hop v.number) v.log.events
    pub sent : All (HasSent v.number v.log.events) v.lanes

  -- the model reaches them by the entries alone
  abbrev pub reached_of : (v : HopView T) → Follows v → Reaches (rules_of v) start (entries v.log.events) (board_of v)
  reached_of v follows = unmarked (rules_of v) start v.log.events (board_of v) follows.reached

  -- what holds of every hop: its lanes are few and those of its log, and its legs are out of its book
  pub record Kept (v : HopView T) : Type 0 where
    pub few : length v.lanes ≤ v.traits.lanes
    pub small : v.traits.lanes ≤ 16
    pub placed : All HasPosition v.lanes
    pub legs : (n : ℕ) → out_of n v.book.out ≡ legs_out n v.lanes
    pub follows : Follows v

  -- an entry may be added at this position: it is past all entries, and there is room for it
  pub record MayCall (v : HopView T) (position : ℕ) : Type 0 where
    pub below : position < 1000000
    pub past : All (λ (e : Event). e.position < position) v.log.events
    pub room : length v.log.events < v.log.room

  -- a BEGIN_REQ is taken: no request is open, and a lane is free
  abbrev pub can_begin : HopView T → Bool
  can_begin v = not (any_requested v.lanes) && nat_lt (length v.lanes) v.traits.lanes

  abbrev pub begin_answer : HopView T → TlmSync
  begin_answer v = request_answer v.traits.req (any_responding v.lanes)

  abbrev pub begin_time : HopView T → ℕ → ℕ
  begin_time v at = max at v.request_end

  abbrev pub begin_entry : HopView T → ℕ → TxnId → ℕ → TlmSync → Event
  begin_entry v position txn at answer = hop_entry v.number position txn (begin_time v at) BeginReq answer 0

  -- a new lane of the transaction of an entry
  abbrev pub new_lane : Event → LaneState → Option T → Lane T
  new_lane e state item = record { txn = e.txn; position = e.position; state = state; last = e.time; latest = e.position; item = item }

  -- the hop after a BEGIN_REQ that leaves these lanes and this book
  abbrev pub begun_with : HopView T → Event → TlmSync → List (Lane T) → Account → HopView T
  begun_with v e answer lanes book = record v { lanes = lanes; request_end = request_end_after v.request_end false BeginReq answer e.time; log = with_event v.log e; book = book }

  -- a BEGIN_REQ that takes a lane
  abbrev pub entered : HopView T → Event → TlmSync → LaneState → Option T → Account → HopView T
  entered v e answer state item book = begun_with v e answer (v.lanes ++ new_lane e state item ∷ []) book

  -- a BEGIN_REQ that ends the transaction
  abbrev pub passed : HopView T → Event → TlmSync → HopView T
  passed v e answer = begun_with v e answer v.lanes v.book

  -- the hop after a later call, on a lane of this state, that leaves these lanes and this book
  abbrev pub called : HopView T → List (Lane T) → Event → LaneState → Phase → TlmSync → Account → HopView T
  called v lanes e state phase answer book = record v {
    lanes = lanes;
    request_end = request_end_after v.request_end (is_requested state) phase answer e.time;
    response_end = response_end_after v.response_end phase answer e.time;
    log = with_event v.log e;
    book = book;
  }

  -- the hop after a fetch
  abbrev pub with_lanes : HopView T → List (Lane T) → Account → HopView T
  with_lanes v lanes book = record v { lanes = lanes; book = book }

  -- a leg of the hop whose lane is in this state
  pub record IsLegOf (v : HopView T) (leg : Slip) (state : LaneState) : Type 0 where
    pub table : leg.table ≡ v.book.table
    pub owner : leg.owner ≡ v.book.owner
    pub state_is : leg.name % 4 ≡ number_of_state state

  -- the book after a leg was given for that of the lane's next state
  abbrev pub leg_changed : Account → Slip → Lane T → LaneState → Account
  leg_changed book leg lane state = leg_out (retired book leg) lane.position state
