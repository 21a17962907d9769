-- Tests of a lane's state, and the answers by the modes of a hop's two ends.
use Rattle.std.specs.Prelude.{Bool, true, false}
use Rattle.tlm_types.specs.declared.words.Phase.TheVariants.{EndReq, BeginResp, EndResp}
use Rattle.tlm_types.specs.declared.words.TlmSync.{TlmSync}
use Rattle.tlm_types.specs.declared.words.TlmSync.TheVariants.{Accepted, Updated, Completed}
use Rattle.tlm_types.specs.declared.words.ReqMode.{ReqMode}
use Rattle.tlm_types.specs.declared.words.ReqMode.TheVariants as Req
use Rattle.tlm_types.specs.declared.words.RespMode.{RespMode}
use Rattle.tlm_types.specs.declared.words.RespMode.TheVariants as Resp
use Rattle.base_phases.specs.declared.phases.LaneState.{LaneState}
use Rattle.base_phases.specs.declared.phases.LaneState.TheVariants.{Requested, Responding}

-- a request is open on the lane
abbrev pub is_requested : LaneState → Bool
is_requested Requested = true
is_requested _ = false

-- a response is open on the lane
abbrev pub is_responding : LaneState → Bool
is_responding Responding = true
is_responding _ = false

-- the answer to BEGIN_REQ, by the mode of the downstream component and whether a response is open on the hop
abbrev pub request_answer : ReqMode → Bool → TlmSync
request_answer Req.Accept open_response = Accepted
request_answer Req.Short open_response = Accepted
request_answer Req.EndReq open_response = Updated EndReq
request_answer Req.BeginResp true = Updated EndReq
request_answer Req.BeginResp false = Updated BeginResp
request_answer Req.Complete open_response = Completed

-- the answer to BEGIN_RESP, by the mode of the upstream component
abbrev pub response_answer : RespMode → TlmSync
response_answer Resp.Accept = Accepted
response_answer Resp.EndResp = Updated EndResp
response_answer Resp.Complete = Completed
