-- What a hop answers to a call, and at which time the call stands, by the log before it.
use Rattle.std.specs.Prelude.{◌≡◌, ℕ, ◌≤◌, Bool, if◌then◌else◌, List, [], ◌∷◌, ◌++◌}
use Rattle.std.specs.List.{fold, list_any}
use Rattle.tlm_types.specs.declared.words.TxnId.{TxnId}
use Rattle.tlm_types.specs.declared.words.Phase.{Phase}
use Rattle.tlm_types.specs.declared.words.Phase.TheVariants.{BeginReq, BeginResp}
use Rattle.tlm_types.specs.declared.words.TlmSync.{TlmSync}
use Rattle.tlm_types.specs.declared.entry.What.{What}
use Rattle.tlm_types.specs.declared.entry.What.TheVariants.{Call as Called}
use Rattle.tlm_types.specs.declared.entry.Entry.{Entry}
use Rattle.tlm_model.specs.Each.{AtEach}
use Rattle.flow_model.specs.Answers.{request_answer, response_answer}
use Rattle.flow_model.specs.Board.{Rules, request_end_after, response_end_after}
use Rattle.flow_model.specs.Calls.{has_open_request, has_open_response, is_of}

-- some transaction's response is open
abbrev pub any_response : List Entry → Bool
any_response log = list_any (λ e. has_open_response e.txn log) log

abbrev pub request_end_by : ℕ → Bool → ℕ → What → ℕ
request_end_by old is_open time (Called phase answer) = request_end_after old is_open phase answer time
request_end_by old is_open time _ = old

abbrev pub request_end_from : List Entry → ℕ → List Entry → ℕ
request_end_from before old [] = old
request_end_from before old (e ∷ es) = request_end_from (before ++ e ∷ []) (request_end_by old (has_open_request e.txn before) e.time e.what) es

-- the time of the last call that ended a request, or 0
abbrev pub request_end : List Entry → ℕ
request_end log = request_end_from [] 0 log

abbrev pub response_end_by : ℕ → ℕ → What → ℕ
response_end_by old time (Called phase answer) = response_end_after old phase answer time
response_end_by old time _ = old

-- the greatest time of a call that ended a response, or 0
abbrev pub response_end : List Entry → ℕ
response_end log = fold (λ old e. response_end_by old e.time e.what) 0 log

-- the time of a transaction's last entry, or 0
abbrev pub last_time : TxnId → List Entry → ℕ
last_time x log = fold (λ old e. if is_of x e then e.time else old) 0 log

-- the answer is that of the mode of the component that is called
abbrev pub AnswersByMode : Rules → List Entry → Phase → TlmSync → Type 0
AnswersByMode r before BeginReq answer = answer ≡ request_answer r.req (any_response before)
AnswersByMode r before BeginResp answer = answer ≡ response_answer r.resp
AnswersByMode r before _ answer = Unit {0}

-- a BEGIN_REQ does not stand before the end of the last request, another call not before its transaction's last one, and a
-- BEGIN_RESP not before the end of any response
abbrev pub IsInTime : List Entry → Entry → Phase → Type 0
IsInTime before e BeginReq = request_end before ≤ e.time
IsInTime before e BeginResp = (last_time e.txn before ≤ e.time) × (response_end before ≤ e.time)
IsInTime before e _ = last_time e.txn before ≤ e.time

abbrev pub IsCallBy : Rules → List Entry → Entry → What → Type 0
IsCallBy r before e (Called phase answer) = AnswersByMode r before phase answer × IsInTime before e phase
IsCallBy r before e _ = ⊥

-- each entry is a call, with its answer and in its time
abbrev pub KeepsRules : Rules → List Entry → Type 0
KeepsRules r log = AtEach (λ before e. IsCallBy r before e e.what) log
