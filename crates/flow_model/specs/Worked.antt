-- Worked logs, made by hand.
use Rattle.std.specs.Prelude.{ℕ, List, [], ◌∷◌}
use Rattle.tlm_types.specs.declared.words.TxnId.{TxnId}
use Rattle.tlm_types.specs.declared.words.ObjectNo.TheVariants.{Hop}
use Rattle.tlm_types.specs.declared.words.Phase.{Phase}
use Rattle.tlm_types.specs.declared.words.Phase.TheVariants.{BeginReq, EndReq, BeginResp, EndResp}
use Rattle.tlm_types.specs.declared.words.TlmSync.{TlmSync}
use Rattle.tlm_types.specs.declared.words.TlmSync.TheVariants.{Accepted, Updated, Completed}
use Rattle.tlm_types.specs.declared.words.ReqMode.TheVariants.{Accept, BeginResp as gives_response}
use Rattle.tlm_types.specs.declared.words.RespMode.TheVariants.{Accept as accept_response}
use Rattle.tlm_types.specs.declared.entry.What.TheVariants.{Call as Called}
use Rattle.tlm_types.specs.declared.entry.Entry.{Entry}
use Rattle.base_phases.specs.declared.phases.LaneState.{LaneState}
use Rattle.base_phases.specs.declared.phases.LaneState.TheVariants.{Requested, Waiting, Responding}
use Rattle.flow_model.specs.Board.{Open, Board, Rules, Steps}

-- the boards after each entry of a log
abbrev pub Passes : Rules → Board → List Entry → List Board → Type 0
Passes r b [] [] = Unit {0}
Passes r b [] (c ∷ cs) = ⊥
Passes r b (e ∷ es) [] = ⊥
Passes r b (e ∷ es) (c ∷ cs) = Steps r b e c × Passes r c es cs

-- two lanes, with ACCEPTED both ways
abbrev pub two_lanes : Rules
two_lanes = record { limit = 2; req = Accept; resp = accept_response }

-- three transactions of one initiator
abbrev pub first : TxnId
first = record { initiator = 0; seq = 0 }

abbrev pub second : TxnId
second = record { initiator = 0; seq = 1 }

abbrev pub third : TxnId
third = record { initiator = 0; seq = 2 }

abbrev pub call : ℕ → TxnId → ℕ → Phase → TlmSync → Entry
call position txn time phase answer = record { position = position; object = Hop 0; txn = txn; time = time; what = Called phase answer }

abbrev pub lane : TxnId → ℕ → LaneState → ℕ → Open
lane txn position state last = record { txn = txn; position = position; state = state; last = last }

abbrev pub board : List Open → ℕ → ℕ → Board
board lanes request_end response_end = record { lanes = lanes; request_end = request_end; response_end = response_end }

-- the second transaction waits for the end of the first one's request, the third for that of the second one's, which its
-- response implies, and the first one's response for the end of the second one's
abbrev pub taking_turns : List Entry
taking_turns =
    call 0 first 0 BeginReq Accepted
    ∷ call 1 first 4 EndReq Accepted
    ∷ call 2 second 4 BeginReq Accepted
    ∷ call 3 second 6 BeginResp Accepted
    ∷ call 4 second 7 EndResp Completed
    ∷ call 5 third 6 BeginReq Accepted
    ∷ call 6 first 7 BeginResp Accepted
    ∷ []

abbrev pub turns : List Board
turns =
    board (lane first 0 Requested 0 ∷ []) 0 0
    ∷ board (lane first 0 Waiting 4 ∷ []) 4 0
    ∷ board (lane first 0 Waiting 4 ∷ lane second 2 Requested 4 ∷ []) 4 0
    ∷ board (lane first 0 Waiting 4 ∷ lane second 2 Responding 6 ∷ []) 6 0
    ∷ board (lane first 0 Waiting 4 ∷ []) 6 7
    ∷ board (lane first 0 Waiting 4 ∷ lane third 5 Requested 6 ∷ []) 6 7
    ∷ board (lane first 0 Responding 7 ∷ lane third 5 Requested 6 ∷ []) 6 7
    ∷ []

-- the second request begins while the first is open
abbrev pub second_request : List Entry
second_request = call 0 first 0 BeginReq Accepted ∷ call 1 second 0 BeginReq Accepted ∷ []

-- the second response comes with the answer to a request while the first is open
abbrev pub second_response : List Entry
second_response = call 0 first 0 BeginReq (Updated BeginResp) ∷ call 1 second 0 BeginReq (Updated BeginResp) ∷ []

-- two requests have ended, and no response has begun
abbrev pub crowded : List Entry
crowded = call 0 first 0 BeginReq (Updated EndReq) ∷ call 1 second 0 BeginReq (Updated EndReq) ∷ []

-- a request begins before the last one has ended
abbrev pub hasty_request : List Entry
hasty_request = call 0 first 0 BeginReq Accepted ∷ call 1 first 4 EndReq Accepted ∷ call 2 second 3 BeginReq Accepted ∷ []

-- a hop whose downstream component gives its response with the answer, and each call's answer by the log before it
abbrev pub by_return : Rules
by_return = record { limit = 2; req = gives_response; resp = accept_response }

abbrev pub returned : List Entry
returned = call 0 first 0 BeginReq (Updated BeginResp) ∷ call 1 second 0 BeginReq (Updated EndReq) ∷ call 2 first 9 EndResp Completed ∷ call 3 second 9 BeginResp Accepted ∷ []

-- the second response ends before the first one by its time, since both came with the answers to their requests
abbrev pub slow_response : List Entry
slow_response = call 0 first 2 BeginReq (Updated BeginResp) ∷ call 1 first 100 EndResp Completed ∷ call 2 second 3 BeginReq (Updated BeginResp) ∷ call 3 second 5 EndResp Completed ∷ []
