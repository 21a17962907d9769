-- The steps of a hop: which calls its log has, one after another.
use Rattle.std.specs.Prelude.{◌≡◌, ℕ, ◌<◌, ◌≤◌, max, Bool, true, false, if◌then◌else◌, List, [], ◌∷◌, ◌++◌, length, Some}
use Rattle.std.specs.List.{list_any}
use Rattle.tlm_types.specs.declared.words.TxnId.{TxnId}
use Rattle.tlm_types.specs.declared.words.Phase.{Phase}
use Rattle.tlm_types.specs.declared.words.Phase.TheVariants.{BeginReq, EndReq, BeginResp, EndResp}
use Rattle.tlm_types.specs.declared.words.TlmSync.{TlmSync}
use Rattle.tlm_types.specs.declared.words.TlmSync.TheVariants.{Accepted}
use Rattle.tlm_types.specs.declared.words.ReqMode.{ReqMode}
use Rattle.tlm_types.specs.declared.words.RespMode.{RespMode}
use Rattle.tlm_types.specs.declared.entry.What.{What}
use Rattle.tlm_types.specs.declared.entry.What.TheVariants.{Call as Called}
use Rattle.tlm_types.specs.declared.entry.Entry.{Entry}
use Rattle.base_phases.specs.declared.phases.LaneState.{LaneState}
use Rattle.base_phases.specs.declared.phases.LaneState.TheVariants.{Free}
use Rattle.base_phases.specs.Phases.{next_state}
use Rattle.flow_model.specs.Answers.{is_requested, is_responding, request_answer, response_answer}

-- a transaction that has begun on the hop and not ended: the position of its BEGIN_REQ, and the time of its last call
pub record Open : Type 0 where
  pub txn : TxnId
  pub position : ℕ
  pub state : LaneState
  pub last : ℕ

-- what is under way, the time of the last call that ended a request, and the greatest time of a call that ended a response
pub record Board : Type 0 where
  pub lanes : List Open
  pub request_end : ℕ
  pub response_end : ℕ

-- how a hop is made: the number of its lanes, and the modes of the components downstream and upstream
pub record Rules : Type 0 where
  pub limit : ℕ
  pub req : ReqMode
  pub resp : RespMode

-- a new hop's board
abbrev pub start : Board
start = record { lanes = []; request_end = 0; response_end = 0 }

-- the lane after a call; an ended transaction has none
abbrev pub lane_after : Open → LaneState → ℕ → List Open
lane_after o Free time = []
lane_after o state time = record { txn = o.txn; position = o.position; state = state; last = time } ∷ []

-- the lane of a BEGIN_REQ, before it
abbrev pub fresh_lane : Entry → Open
fresh_lane e = record { txn = e.txn; position = e.position; state = Free; last = e.time }

-- the call ends a request: END_REQ, BEGIN_RESP where that of its transaction is open, BEGIN_REQ answered otherwise than ACCEPTED
abbrev pub ends_request : Bool → Phase → TlmSync → Bool
ends_request is_open BeginReq Accepted = false
ends_request is_open BeginReq answer = true
ends_request is_open EndReq answer = true
ends_request is_open BeginResp answer = is_open
ends_request is_open EndResp answer = false

-- the call ends a response: END_RESP, BEGIN_RESP answered otherwise than ACCEPTED
abbrev pub ends_response : Phase → TlmSync → Bool
ends_response BeginReq answer = false
ends_response EndReq answer = false
ends_response BeginResp Accepted = false
ends_response BeginResp answer = true
ends_response EndResp answer = true

-- the time of the last call that ended a request, after a call
abbrev pub request_end_after : ℕ → Bool → Phase → TlmSync → ℕ → ℕ
request_end_after old is_open phase answer time = if ends_request is_open phase answer then time else old

-- the greatest time of a call that ended a response, after a call
abbrev pub response_end_after : ℕ → Phase → TlmSync → ℕ → ℕ
response_end_after old phase answer time = if ends_response phase answer then max old time else old

-- some lane's state passes the test
abbrev pub any_in : (LaneState → Bool) → List Open → Bool
any_in test lanes = list_any (λ (o : Open). test o.state) lanes

-- BEGIN_REQ: no request is open, a lane is free, and the last request has ended by then
pub record Begins (r : Rules) (b : Board) (e : Entry) (answer : TlmSync) (c : Board) : Type 0 where
  pub alone : any_in is_requested b.lanes ≡ false
  pub room : length b.lanes < r.limit
  pub answered : answer ≡ request_answer r.req (any_in is_responding b.lanes)
  pub late : b.request_end ≤ e.time
  pub state : LaneState
  pub allowed : next_state Free BeginReq answer ≡ Some state
  pub after : c ≡ record { lanes = b.lanes ++ lane_after (fresh_lane e) state e.time; request_end = request_end_after b.request_end false BeginReq answer e.time; response_end = b.response_end }

-- what a BEGIN_RESP waits for: no response is open, and all responses have ended by then
abbrev pub InTurn : Rules → Board → Entry → Phase → TlmSync → Type 0
InTurn r b e BeginResp answer = (any_in is_responding b.lanes ≡ false) × (answer ≡ response_answer r.resp) × (b.response_end ≤ e.time)
InTurn r b e _ answer = Unit {0}

-- a later call, on a lane of its transaction and not before its last one
pub record Moves (r : Rules) (b : Board) (e : Entry) (phase : Phase) (answer : TlmSync) (c : Board) : Type 0 where
  pub before : List Open
  pub lane : Open
  pub behind : List Open
  pub here : b.lanes ≡ before ++ lane ∷ behind
  pub txn : lane.txn ≡ e.txn
  pub late : lane.last ≤ e.time
  pub turn : InTurn r b e phase answer
  pub state : LaneState
  pub allowed : next_state lane.state phase answer ≡ Some state
  pub after : c ≡ record { lanes = before ++ (lane_after lane state e.time ++ behind); request_end = request_end_after b.request_end (is_requested lane.state) phase answer e.time; response_end = response_end_after b.response_end phase answer e.time }

-- a step, by what happened: other entries than calls don't stand in a hop's log
abbrev pub StepsBy : Rules → Board → Entry → What → Board → Type 0
StepsBy r b e (Called BeginReq answer) c = Begins r b e answer c
StepsBy r b e (Called phase answer) c = Moves r b e phase answer c
StepsBy r b e _ c = ⊥

-- one entry of the log takes the hop from a board to the next
abbrev pub Steps : Rules → Board → Entry → Board → Type 0
Steps r b e c = StepsBy r b e e.what c

-- the entries of a log, one after another
abbrev pub Reaches : Rules → Board → List Entry → Board → Type 0
Reaches r b [] d = b ≡ d
Reaches r b (e ∷ es) d = (c : Board) × Steps r b e c × Reaches r c es d
