-- A hop as an object of the history.
use Rattle.std.specs.Prelude.{◌≡◌, ◌⊎◌, ℕ, ◌&&◌, not, max, Bool, false, List, [], ◌∷◌, ◌++◌, Option, Some, None, find}
use Rattle.std.specs.List.{list_all, list_any}
use Rattle.tlm_types.specs.declared.words.TxnId.{TxnId}
use Rattle.tlm_types.specs.declared.words.ObjectNo.TheVariants.{Hop}
use Rattle.tlm_types.specs.declared.words.Phase.{Phase}
use Rattle.tlm_types.specs.declared.words.Phase.TheVariants as Phases
use Rattle.tlm_types.specs.declared.words.TlmSync.{TlmSync}
use Rattle.tlm_types.specs.declared.words.TlmSync.TheVariants.{Accepted, Completed}
use Rattle.tlm_types.specs.declared.entry.Content.{Content}
use Rattle.base_phases.specs.declared.phases.LaneState.{LaneState}
use Rattle.base_phases.specs.declared.phases.LaneState.TheVariants.{Free, Requested, Waiting, Responding}
use Rattle.token_book.specs.Account.{Slip}
use Rattle.shared_object.specs.Written.{Built}
use Rattle.flow_model.specs.Answers.{response_answer}
use Rattle.flow_model.specs.Marked.{mark_of}
use Rattle.hop_object.specs.declared.lane.Lane.{Lane}
use Rattle.hop_object.specs.declared.lane.Side.{Side}
use Rattle.hop_object.specs.declared.lane.Side.TheVariants.{Down, Up}
use Rattle.hop_object.specs.declared.call.Begun.{Begun}
use Rattle.hop_object.specs.declared.call.Begun.TheVariants.{Left, Now, Busy}
use Rattle.hop_object.specs.declared.call.Responded.{Responded}
use Rattle.hop_object.specs.declared.call.Responded.TheVariants as Answers
use Rattle.hop_object.specs.declared.call.HopTraits.{HopTraits}
use Rattle.hop_object.specs.declared.call.HopCall.{HopCall}
use Rattle.hop_object.specs.declared.call.HopCall.TheVariants as Calls
use Rattle.hop_object.specs.declared.call.HopReply.{HopReply}
use Rattle.hop_object.specs.declared.call.HopReply.TheVariants as Replies
use Rattle.hop_object.specs.View.{HopView}
use Rattle.hop_object.specs.Lanes.{any_responding, has_leg, is_ended, side_of}
use Rattle.hop_object.specs.Hops.{begin_answer, begin_time, call_content, can_begin, IsLegOf}
use Rattle.hop_object.specs.Calls.{AnswersRequest, AnswersResponse, EndsRequest, EndsResponse, FetchesDown, FetchesUp}

module _ {T : Type 0} where
  -- a hop has its lanes and modes, no gate, and the book of its legs
  abbrev pub built_of : HopView T → Built HopTraits
  built_of v = record { object = Hop v.number; made = v.traits; gates = (0, 0); book = Some (v.book.table, v.book.owner) }

  -- a lane has this leg
  abbrev pub knows : HopView T → Slip → Bool
  knows v leg = list_any (has_leg leg.name) v.lanes

  -- the call is taken, and adds an entry
  abbrev pub is_admitted : HopView T → HopCall T → Bool
  is_admitted v (Calls.BeginReq txn at item) = can_begin v
  is_admitted v (Calls.EndReq leg at) = knows v leg
  is_admitted v (Calls.BeginResp leg at item) = knows v leg && not (any_responding v.lanes)
  is_admitted v (Calls.EndResp leg at) = knows v leg
  is_admitted v _ = false

  -- the lane of a leg
  abbrev pub lane_of : HopView T → Slip → Option (Lane T)
  lane_of v leg = find (has_leg leg.name) v.lanes

  abbrev pub txn_of : Option (Lane T) → TxnId
  txn_of None = record { initiator = 0; seq = 0 }
  txn_of (Some lane) = lane.txn

  abbrev pub last_of : Option (Lane T) → ℕ
  last_of None = 0
  last_of (Some lane) = lane.last

  abbrev pub state_of : Option (Lane T) → LaneState
  state_of None = Free
  state_of (Some lane) = lane.state

  -- the parts of the entry of a call that is taken
  abbrev pub txn_by : HopView T → HopCall T → TxnId
  txn_by v (Calls.BeginReq txn at item) = txn
  txn_by v (Calls.EndReq leg at) = txn_of (lane_of v leg)
  txn_by v (Calls.BeginResp leg at item) = txn_of (lane_of v leg)
  txn_by v (Calls.EndResp leg at) = txn_of (lane_of v leg)
  txn_by v _ = txn_of None

  abbrev pub time_by : HopView T → HopCall T → ℕ
  time_by v (Calls.BeginReq txn at item) = begin_time v at
  time_by v (Calls.EndReq leg at) = max at (last_of (lane_of v leg))
  time_by v (Calls.BeginResp leg at item) = max (max at (last_of (lane_of v leg))) v.response_end
  time_by v (Calls.EndResp leg at) = max at (last_of (lane_of v leg))
  time_by v _ = 0

  abbrev pub phase_by : HopCall T → Phase
  phase_by (Calls.BeginReq txn at item) = Phases.BeginReq
  phase_by (Calls.EndReq leg at) = Phases.EndReq
  phase_by (Calls.BeginResp leg at item) = Phases.BeginResp
  phase_by (Calls.EndResp leg at) = Phases.EndResp
  phase_by _ = Phases.BeginReq

  abbrev pub answer_by : HopView T → HopCall T → TlmSync
  answer_by v (Calls.BeginReq txn at item) = begin_answer v
  answer_by v (Calls.EndReq leg at) = Accepted
  answer_by v (Calls.BeginResp leg at item) = response_answer v.traits.resp
  answer_by v (Calls.EndResp leg at) = Completed
  answer_by v _ = Accepted

  -- a BEGIN_RESP tells whether it ends the request of its lane
  abbrev pub mark_by : HopView T → HopCall T → ℕ
  mark_by v (Calls.BeginResp leg at item) = mark_of (state_of (lane_of v leg))
  mark_by v _ = 0

  -- what the entry of a call says
  abbrev pub content_by : HopView T → HopCall T → Content
  content_by v call = call_content (txn_by v call) (time_by v call) (phase_by call) (answer_by v call) (mark_by v call)

  -- a leg of a call is of the hop's book, and its lane is in the state that the call needs
  abbrev pub IsFit : HopView T → HopCall T → Type 0
  IsFit v (Calls.EndReq leg at) = IsLegOf v leg Requested
  IsFit v (Calls.BeginResp leg at item) = IsLegOf v leg Requested ⊎ IsLegOf v leg Waiting
  IsFit v (Calls.EndResp leg at) = IsLegOf v leg Responding
  IsFit v _ = Unit {0}

  -- the number, for looks, of an answer that gives nothing
  abbrev pub look_of : HopReply T → ℕ
  look_of (Replies.Down None) = 1
  look_of (Replies.Up None) = 2
  look_of (Replies.Begun (Busy holder live item)) = 3
  look_of (Replies.Responded (Answers.Busy holder leg item)) = 4
  look_of (Replies.Ended false) = 5
  look_of _ = 0

  -- an item, if there is one, with its transaction and the side to which it goes
  abbrev pub of_item : TxnId → Side → Option T → List (TxnId × (Side × T))
  of_item txn side None = []
  of_item txn side (Some item) = (txn, (side, item)) ∷ []

  -- the items that lanes carry
  abbrev pub carried_by : List (Lane T) → List (TxnId × (Side × T))
  carried_by [] = []
  carried_by (l ∷ ls) = of_item l.txn (side_of l.state) l.item ++ carried_by ls

  -- an item that comes with a leg and goes up, with the transaction of its lane. Where no lane has the leg there is none: the call can't be made
  abbrev pub of_lane : Option (Lane T) → T → List (TxnId × (Side × T))
  of_lane None item = []
  of_lane (Some lane) item = (lane.txn, (Up, item)) ∷ []

  -- the items that a call brings
  abbrev pub brought_by : HopView T → HopCall T → List (TxnId × (Side × T))
  brought_by v (Calls.BeginReq txn at item) = (txn, (Down, item)) ∷ []
  brought_by v (Calls.BeginResp leg at item) = of_lane (lane_of v leg) item
  brought_by v _ = []

  abbrev pub given_begun : TxnId → Begun T → List (TxnId × (Side × T))
  given_begun txn (Left answer time) = []
  given_begun txn (Now answer time leg item) = (txn, (Down, item)) ∷ []
  given_begun txn (Busy holder live item) = (txn, (Down, item)) ∷ []

  abbrev pub given_responded : HopView T → Responded T → List (TxnId × (Side × T))
  given_responded v (Answers.Sent answer time) = []
  given_responded v (Answers.Busy holder leg item) = of_lane (lane_of v leg) item

  -- the items that a reply gives, of the transaction that the call names or that comes with them
  abbrev pub given_by : HopView T → HopCall T → HopReply T → List (TxnId × (Side × T))
  given_by v call (Replies.Begun b) = given_begun (txn_by v call) b
  given_by v call (Replies.Responded r) = given_responded v r
  given_by v call (Replies.Down (Some r)) = (r.2, (Down, r.4)) ∷ []
  given_by v call (Replies.Up (Some r)) = (r.1, (Up, r.3)) ∷ []
  given_by v call _ = []

  -- what a call at a position answers, and what it leaves
  abbrev pub Applied : HopView T → ℕ → HopCall T → HopReply T → HopView T → Type 0
  Applied v position (Calls.BeginReq txn at item) (Replies.Begun answer) w = AnswersRequest v position txn at item w answer
  Applied v position Calls.FetchDown (Replies.Down fetched) w = FetchesDown v w fetched
  Applied v position (Calls.EndReq leg at) (Replies.EndedReq next time) w = EndsRequest v leg position at w next time
  Applied v position (Calls.BeginResp leg at item) (Replies.Responded answer) w = AnswersResponse v leg position at item w answer
  Applied v position Calls.FetchUp (Replies.Up fetched) w = FetchesUp v w fetched
  Applied v position (Calls.EndResp leg at) (Replies.EndedResp time) w = EndsResponse v leg position at w time
  Applied v position (Calls.Ended txn) (Replies.Ended answer) w = (w ≡ v) × (answer ≡ list_all (is_ended txn) v.lanes)
  Applied v position call reply w = ⊥
