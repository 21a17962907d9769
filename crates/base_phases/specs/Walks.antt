-- Walks of a lane: calls that its states allow, one after another.
use Rattle.std.specs.Prelude.{◌≡◌, ◌≤◌, Bool, true, false, List, [], ◌∷◌, ◌++◌, Option, Some, count_by}
use Rattle.std.specs.Option.{option_and_then}
use Rattle.std.specs.List.{fold}
use Rattle.tlm_types.specs.declared.words.Phase.TheVariants.{BeginReq}
use Rattle.base_phases.specs.declared.phases.LaneState.{LaneState}
use Rattle.base_phases.specs.declared.phases.LaneState.TheVariants.{Free}
use Rattle.base_phases.specs.Phases.{next_state}
use Rattle.base_phases.specs.Sequences.{Call}

-- one call more
abbrev pub after_call : Option LaneState → Call → Option LaneState
after_call state call = option_and_then (λ s. next_state s call.0 call.1) state

-- the state in which the calls leave a lane that was free, or None where one of them is not allowed
abbrev pub state_after : List Call → Option LaneState
state_after calls = fold after_call (Some Free) calls

-- each call is allowed
abbrev pub IsWalk : List Call → Type 0
IsWalk calls = (state : LaneState) × (state_after calls ≡ Some state)

abbrev pub is_begin : Call → Bool
is_begin (BeginReq, answer) = true
is_begin call = false

-- at most one BEGIN_REQ stands among the calls
abbrev pub HasOneBegin : List Call → Type 0
HasOneBegin calls = count_by is_begin calls ≤ 1

-- a walk from Free to Free that is not Free in between
pub record IsRound (calls : List Call) : Type 0 where
  pub some : ¬ (calls ≡ [])
  pub ended : state_after calls ≡ Some Free
  pub busy : (first : Call) (before : List Call) (next : Call) (behind : List Call) → calls ≡ (first ∷ before) ++ (next ∷ behind) → ¬ (state_after (first ∷ before) ≡ Some Free)
