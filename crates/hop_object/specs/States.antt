-- The states of a lane, as legs name them.
use Rattle.std.specs.Prelude.{ℕ, Bool, true, false}
use Rattle.tlm_types.specs.declared.words.TlmSync.{TlmSync}
use Rattle.tlm_types.specs.declared.words.TlmSync.TheVariants.{Accepted}
use Rattle.base_phases.specs.declared.phases.LaneState.{LaneState}
use Rattle.base_phases.specs.declared.phases.LaneState.TheVariants.{Free, Requested, Waiting, Responding}

-- the number of a state, in their order
abbrev pub number_of_state : LaneState → ℕ
number_of_state Free = 0
number_of_state Requested = 1
number_of_state Waiting = 2
number_of_state Responding = 3

-- the state after a BEGIN_RESP with this answer
abbrev pub state_by : TlmSync → LaneState
state_by Accepted = Responding
state_by answer = Free

-- the request has begun, and the response hasn't
abbrev pub is_down : LaneState → Bool
is_down Requested = true
is_down Waiting = true
is_down state = false
