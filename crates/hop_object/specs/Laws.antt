-- Laws of a hop's log and of its legs.
use Rattle.std.specs.Prelude.{◌≡◌, ◌⊎◌, ℕ, ◌<◌, ◌/◌, ◌%◌, true, map, List, Option, Some, None}
use Rattle.tlm_types.specs.declared.words.TxnId.{TxnId}
use Rattle.tlm_types.specs.declared.words.Phase.TheVariants.{BeginReq, BeginResp}
use Rattle.tlm_types.specs.declared.words.TlmSync.{TlmSync}
use Rattle.tlm_types.specs.declared.entry.What.TheVariants.{Call as Called}
use Rattle.base_phases.specs.declared.phases.LaneState.{LaneState}
use Rattle.base_phases.specs.declared.phases.LaneState.TheVariants.{Free, Requested, Waiting, Responding}
use Rattle.token_book.specs.Account.{Account, Slip}
use Rattle.tlm_model.specs.Each.{AtEach}
use Rattle.flow_model.specs.Calls.{has_open_request}
use Rattle.flow_model.specs.Events.{Among, Event, Finds, FindsAt, IsCall, IsOwn, IsPhase, entries}
use Rattle.flow_model.specs.Backed.{EndsRequest, EndsResponse}
use Rattle.view_lists.specs.Lists.{Has}
use Rattle.hop_object.specs.declared.call.Begun.{Begun}
use Rattle.hop_object.specs.declared.call.Begun.TheVariants.{Left, Now, Busy}
use Rattle.hop_object.specs.declared.call.Responded.{Responded}
use Rattle.hop_object.specs.declared.call.Responded.TheVariants as Answers
use Rattle.shared_object.specs.Written.{Written}
use Rattle.numbered_log.specs.Logged.{written_by}
use Rattle.hop_object.specs.declared.call.HopCall.{HopCall}
use Rattle.hop_object.specs.declared.call.HopCall.TheVariants as Calls
use Rattle.hop_object.specs.declared.call.HopReply.{HopReply}
use Rattle.hop_object.specs.declared.call.HopReply.TheVariants as Replies
use Rattle.hop_object.specs.States.{number_of_state}
use Rattle.hop_object.specs.declared.lane.Side.{Side}
use Rattle.hop_object.specs.declared.lane.Side.TheVariants.{Down, Up}
use Rattle.hop_object.specs.View.{HopView}
use Rattle.hop_object.specs.Hops.{phase_to, IsLegOf, LeadsToState}
use Rattle.hop_object.specs.Objects.{brought_by, knows, lane_of, last_of, state_of, txn_of}

-- the log of the hop of this number has the call of x with which its item came to a side, at this time, and its answer leads to this state of the lane
pub record HasItemCall (number : ℕ) (log : List Event) (side : Side) (x : TxnId) (state : LaneState) (time : ℕ) : Type 0 where
  pub answer : TlmSync
  pub call : FindsAt (Among log) (IsCall x number (phase_to side) answer) time
  pub leads : LeadsToState side answer state

-- the state of a lane from which a response was fetched: its leg comes where END_RESP is owed
abbrev pub state_with : Option Slip → LaneState
state_with None = Free
state_with (Some leg) = Responding

module _ {T : Type 0} where
  -- the BEGIN_REQ of the lane of a leg, at the position that the leg names
  pub record IsBegin (h : HopView T) (leg : Slip) (e : Event) : Type 0 where
    pub phase : IsPhase (txn_of (lane_of h leg)) h.number BeginReq e
    pub place : e.position ≡ leg.name / 4

  -- The log has the BEGIN_REQ of the lane of a leg, and the lane has the transaction of each entry at the leg's position: there is just one.
  -- The leg names the lane's state
  pub record NamesTransaction (h : HopView T) (leg : Slip) : Type 0 where
    pub begun : Finds (Among h.log.events) (IsBegin h leg)
    pub one : (e : Event) → Has h.log.events e → e.position ≡ leg.name / 4 → txn_of (lane_of h leg) ≡ e.txn
    pub state : number_of_state (state_of (lane_of h leg)) ≡ leg.name % 4

  -- the log has the BEGIN_REQ of x at the position that a leg names
  abbrev pub IsLegOfTxn : HopView T → Slip → TxnId → Type 0
  IsLegOfTxn w leg x = Finds (Among w.log.events) (λ e. IsPhase x w.number BeginReq e × (e.position ≡ leg.name / 4))

  abbrev pub OwedNames : HopView T → Option Slip → TxnId → Type 0
  OwedNames w None x = Unit {0}
  OwedNames w (Some leg) x = IsLegOfTxn w leg x

  abbrev pub BegunNames : HopView T → Begun T → TxnId → Type 0
  BegunNames w (Now answer at leg item) x = OwedNames w leg x
  BegunNames w answer x = Unit {0}

  -- a leg that comes with the answer to BEGIN_REQ, or with an item, names the transaction of that
  abbrev pub ReplyNames : HopView T → HopCall T → HopReply T → Type 0
  ReplyNames w (Calls.BeginReq x at item) (Replies.Begun answer) = BegunNames w answer x
  ReplyNames w call (Replies.Down (Some r)) = IsLegOfTxn w r.0 r.2
  ReplyNames w call (Replies.Up (Some r)) = OwedNames w r.0 r.1
  ReplyNames w call reply = Unit {0}

  -- what was fetched has the call with which it came in the log, at the time that the reply tells
  abbrev pub FetchedWasSent : HopView T → HopReply T → Type 0
  FetchedWasSent w (Replies.Down (Some r)) = HasItemCall w.number w.log.events Down r.2 r.1 r.3
  FetchedWasSent w (Replies.Up (Some r)) = HasItemCall w.number w.log.events Up r.1 (state_with r.0) r.2
  FetchedWasSent w reply = Unit {0}

  -- An item that comes with a BEGIN_RESP is of the transaction of the entry at the leg's position, at each hop that has that entry
  abbrev pub BringsOwn : HopView T → Slip → ℕ → T → Type 0
  BringsOwn h leg at item = (e : Written) → Has (map written_by h.log.events) e → e.position ≡ leg.name / 4 → (x : TxnId × (Side × T)) → Has (brought_by h (Calls.BeginResp leg at item)) x → x ≡ (e.content.txn, (Up, item))

  -- each time by which a hop delays a call is that of a call in its log, which ends a request or a response, or is the last one of the leg's lane
  pub record HasTimes (h : HopView T) : Type 0 where
    pub request : (h.request_end ≡ 0) ⊎ FindsAt (Among h.log.events) (EndsRequest h.number) h.request_end
    pub response : (h.response_end ≡ 0) ⊎ FindsAt (Among h.log.events) (EndsResponse h.number) h.response_end
    pub last : (leg : Slip) → knows h leg ≡ true → 0 < leg.name % 4 → FindsAt (Among h.log.events) (IsOwn (txn_of (lane_of h leg)) h.number) (last_of (lane_of h leg))

  -- a BEGIN_RESP that is marked comes where the request of its transaction is open by the log
  abbrev pub MarksTell : HopView T → Type 0
  MarksTell h = AtEach (λ before e. (answer : TlmSync) → e.what ≡ Called BeginResp answer → e.number ≡ 1 → has_open_request e.txn (entries before) ≡ true) h.log.events

  -- a leg of END_RESP, where one came
  abbrev pub IsOwed : HopView T → Option Slip → Type 0
  IsOwed w None = Unit {0}
  IsOwed w (Some leg) = IsLegOf w leg Responding

  abbrev pub BegunFits : HopView T → Begun T → Type 0
  BegunFits w (Left answer at) = Unit {0}
  BegunFits w (Now answer at leg item) = IsOwed w leg
  BegunFits w (Busy holder live item) = Unit {0}

  abbrev pub RespondedFits : HopView T → Responded T → Type 0
  RespondedFits w (Answers.Sent answer at) = Unit {0}
  RespondedFits w (Answers.Busy holder leg item) = IsLegOf w leg Requested ⊎ IsLegOf w leg Waiting

  -- a leg that comes with a reply is of the hop's book, and names its lane's state
  abbrev pub LegsFit : HopView T → HopReply T → Type 0
  LegsFit w (Replies.Begun b) = BegunFits w b
  LegsFit w (Replies.Down (Some r)) = IsLegOf w r.0 r.1
  LegsFit w (Replies.EndedReq leg at) = IsLegOf w leg Waiting
  LegsFit w (Replies.Responded r) = RespondedFits w r
  LegsFit w (Replies.Up (Some r)) = IsOwed w r.0
  LegsFit w reply = Unit {0}

-- a leg of this book
pub record IsHeld (book : Account) (leg : Slip) : Type 0 where
  pub table : leg.table ≡ book.table
  pub owner : leg.owner ≡ book.owner
