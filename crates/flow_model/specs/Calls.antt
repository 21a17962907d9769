-- The calls of a transaction in a hop's log.
use Rattle.std.specs.Prelude.{Bool, true, false, if◌then◌else◌, List, [], ◌∷◌}
use Rattle.std.specs.List.{flat_map, fold}
use Rattle.tlm_types.specs.declared.words.TxnId.{TxnId}
use Rattle.tlm_types.specs.declared.words.Phase.TheVariants.{BeginReq, BeginResp, EndResp}
use Rattle.tlm_types.specs.declared.words.TlmSync.TheVariants.{Accepted, Updated}
use Rattle.tlm_types.specs.declared.entry.What.{What}
use Rattle.tlm_types.specs.declared.entry.What.TheVariants.{Call as Called}
use Rattle.tlm_types.specs.declared.entry.Entry.{Entry}
use Rattle.tlm_model.specs.Requests.{is_txn}
use Rattle.base_phases.specs.Sequences.{Call}

-- the entry is the transaction's
abbrev pub is_of : TxnId → Entry → Bool
is_of x e = is_txn x.initiator x.seq e.txn

abbrev pub calls_in : What → List Call
calls_in (Called phase answer) = (phase, answer) ∷ []
calls_in _ = []

-- the calls of a transaction, in order
abbrev pub calls_of : TxnId → List Entry → List Call
calls_of x log = flat_map (λ e. if is_of x e then calls_in e.what else []) log

-- a request is open from its BEGIN_REQ with ACCEPTED to the next call
abbrev pub request_by : Bool → Call → Bool
request_by was_open (BeginReq, Accepted) = true
request_by was_open call = false

-- a response is open from its BEGIN_RESP with ACCEPTED, or its BEGIN_REQ with UPDATED BEGIN_RESP, to its END_RESP
abbrev pub response_by : Bool → Call → Bool
response_by was_open (BeginReq, Updated BeginResp) = true
response_by was_open (BeginResp, Accepted) = true
response_by was_open (EndResp, answer) = false
response_by was_open call = was_open

abbrev pub has_open_request : TxnId → List Entry → Bool
has_open_request x log = fold request_by false (calls_of x log)

abbrev pub has_open_response : TxnId → List Entry → Bool
has_open_response x log = fold response_by false (calls_of x log)

abbrev pub begins_request : What → Bool
begins_request (Called BeginReq answer) = true
begins_request _ = false

-- a response that is called counts as one that is given with the answer to BEGIN_REQ
abbrev pub begins_response : What → Bool
begins_response (Called BeginReq (Updated BeginResp)) = true
begins_response (Called BeginResp answer) = true
begins_response _ = false
