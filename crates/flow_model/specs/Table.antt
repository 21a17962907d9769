-- Which of the eleven sequences the components at the two ends of a hop make.
use Rattle.std.specs.Prelude.{◌≡◌, ℕ, List, [], ◌∷◌, ◌++◌, Some, slice_get}
use Rattle.tlm_types.specs.declared.words.Phase.TheVariants.{BeginReq, EndReq, BeginResp, EndResp}
use Rattle.tlm_types.specs.declared.words.TlmSync.TheVariants.{Accepted, Updated, Completed}
use Rattle.tlm_types.specs.declared.words.ReqMode.{ReqMode}
use Rattle.tlm_types.specs.declared.words.ReqMode.TheVariants as Req
use Rattle.tlm_types.specs.declared.words.RespMode.{RespMode}
use Rattle.tlm_types.specs.declared.words.RespMode.TheVariants as Resp
use Rattle.base_phases.specs.Sequences.{Call}

-- the calls from BEGIN_RESP on, by the mode of the upstream component
abbrev pub ending : RespMode → List Call
ending Resp.Accept = (BeginResp, Accepted) ∷ (EndResp, Completed) ∷ []
ending Resp.EndResp = (BeginResp, Updated EndResp) ∷ []
ending Resp.Complete = (BeginResp, Completed) ∷ []

-- the sequences by the modes: a router that accepts has the row of a memory that accepts where it has a window for the
-- address, and else that of one that is short; where a memory gives its response with the answer to BEGIN_REQ, the second
-- sequence stands for the case that a response is open
abbrev pub sequences_of : ReqMode → RespMode → List (List Call)
sequences_of Req.Accept resp = ((BeginReq, Accepted) ∷ (EndReq, Accepted) ∷ ending resp) ∷ []
sequences_of Req.Short resp = ((BeginReq, Accepted) ∷ ending resp) ∷ []
sequences_of Req.EndReq resp = ((BeginReq, Updated EndReq) ∷ ending resp) ∷ []
sequences_of Req.BeginResp resp = ((BeginReq, Updated BeginResp) ∷ (EndResp, Completed) ∷ []) ∷ ((BeginReq, Updated EndReq) ∷ ending resp) ∷ []
sequences_of Req.Complete resp = ((BeginReq, Completed) ∷ []) ∷ []

-- the sequences that a hop with these modes lets by: it doesn't know whether a component that accepts makes END_REQ
abbrev pub hop_sequences : ReqMode → RespMode → List (List Call)
hop_sequences Req.Accept resp = sequences_of Req.Accept resp ++ sequences_of Req.Short resp
hop_sequences Req.Short resp = sequences_of Req.Accept resp ++ sequences_of Req.Short resp
hop_sequences Req.EndReq resp = sequences_of Req.EndReq resp
hop_sequences Req.BeginResp resp = sequences_of Req.BeginResp resp
hop_sequences Req.Complete resp = sequences_of Req.Complete resp

-- the calls are a prefix of one of these sequences
abbrev pub IsBegunIn : List (List Call) → List Call → Type 0
IsBegunIn rows calls = (k : ℕ) × (rest : List Call) × (slice_get rows k ≡ Some (calls ++ rest))
