-- The steps of a lane (IEEE 1666-2011, clause 15.2).
use Rattle.std.specs.Prelude.{Option, Some, None}
use Rattle.tlm_types.specs.declared.words.Phase.{Phase}
use Rattle.tlm_types.specs.declared.words.Phase.TheVariants.{BeginReq, EndReq, BeginResp, EndResp}
use Rattle.tlm_types.specs.declared.words.TlmSync.{TlmSync}
use Rattle.tlm_types.specs.declared.words.TlmSync.TheVariants.{Accepted, Updated, Completed}
use Rattle.base_phases.specs.declared.phases.LaneState.{LaneState}
use Rattle.base_phases.specs.declared.phases.LaneState.TheVariants.{Free, Requested, Waiting, Responding}

-- the state after a call and its answer: nothing else is allowed
abbrev pub next_state : LaneState → Phase → TlmSync → Option LaneState
next_state Free BeginReq Accepted = Some Requested
next_state Free BeginReq (Updated EndReq) = Some Waiting
next_state Free BeginReq (Updated BeginResp) = Some Responding
next_state Free BeginReq Completed = Some Free
next_state Requested EndReq Accepted = Some Waiting
next_state Requested BeginResp Accepted = Some Responding
next_state Requested BeginResp (Updated EndResp) = Some Free
next_state Requested BeginResp Completed = Some Free
next_state Waiting BeginResp Accepted = Some Responding
next_state Waiting BeginResp (Updated EndResp) = Some Free
next_state Waiting BeginResp Completed = Some Free
next_state Responding EndResp Completed = Some Free
next_state _ _ _ = None
