-- What is open by a transaction's calls is open by its lane's state.
use Rattle.std.proofs.Common.{◌≡◌, Bool, false, List, [], ◌∷◌, Option, Some, None, refl, ap, ◌∙◌}
use Rattle.std.specs.List.{fold}
use Rattle.tlm_types.specs.declared.words.Phase.TheVariants.{BeginReq, EndReq, BeginResp, EndResp}
use Rattle.tlm_types.specs.declared.words.TlmSync.TheVariants.{Accepted, Updated, Completed}
use Rattle.base_phases.specs.declared.phases.LaneState.{LaneState}
use Rattle.base_phases.specs.declared.phases.LaneState.TheVariants.{Free, Requested, Waiting, Responding}
use Rattle.base_phases.specs.Phases.{next_state}
use Rattle.base_phases.specs.Sequences.{Call}
use Rattle.base_phases.specs.Walks.{after_call, state_after}
use Rattle.base_phases.proofs.WalkLemmas.{stuck}
use Rattle.flow_model.specs.Answers.{is_requested, is_responding}
use Rattle.flow_model.specs.Calls.{request_by, response_by}

-- a flag is that of the state, where there is one
abbrev Agrees : (LaneState → Bool) → Bool → Option LaneState → Type 0
Agrees is flag None = Unit {0}
Agrees is flag (Some s) = flag ≡ is s

one_request : (s : LaneState) (c : Call) → Agrees is_requested (request_by (is_requested s) c) (next_state s c.0 c.1)
one_request Free (BeginReq, Accepted) = refl
one_request Free (BeginReq, Updated EndReq) = refl
one_request Free (BeginReq, Updated BeginResp) = refl
one_request Free (BeginReq, Completed) = refl
one_request Requested (EndReq, Accepted) = refl
one_request Requested (BeginResp, Accepted) = refl
one_request Requested (BeginResp, Updated EndResp) = refl
one_request Requested (BeginResp, Completed) = refl
one_request Waiting (BeginResp, Accepted) = refl
one_request Waiting (BeginResp, Updated EndResp) = refl
one_request Waiting (BeginResp, Completed) = refl
one_request Responding (EndResp, Completed) = refl
one_request s c = tt

one_response : (s : LaneState) (c : Call) → Agrees is_responding (response_by (is_responding s) c) (next_state s c.0 c.1)
one_response Free (BeginReq, Accepted) = refl
one_response Free (BeginReq, Updated EndReq) = refl
one_response Free (BeginReq, Updated BeginResp) = refl
one_response Free (BeginReq, Completed) = refl
one_response Requested (EndReq, Accepted) = refl
one_response Requested (BeginResp, Accepted) = refl
one_response Requested (BeginResp, Updated EndResp) = refl
one_response Requested (BeginResp, Completed) = refl
one_response Waiting (BeginResp, Accepted) = refl
one_response Waiting (BeginResp, Updated EndResp) = refl
one_response Waiting (BeginResp, Completed) = refl
one_response Responding (EndResp, Completed) = refl
one_response s c = tt

module _ (flag_by : Bool → Call → Bool) (is : LaneState → Bool) (one : (s : LaneState) (c : Call) → Agrees is (flag_by (is s) c) (next_state s c.0 c.1)) where
  flags : (cs : List Call) (s t : LaneState) → fold after_call (Some s) cs ≡ Some t → fold flag_by (is s) cs ≡ is t
  flags [] s t e = let same : s ≡ t = cc in ap is same
  flags (c ∷ cs) s t e = on (next_state s c.0 c.1) (one s c) e (λ u f. flags cs u t f)
    where
      on : (q : Option LaneState) → Agrees is (flag_by (is s) c) q → fold after_call q cs ≡ Some t → ((u : LaneState) → fold after_call (Some u) cs ≡ Some t → fold flag_by (is u) cs ≡ is t) → fold flag_by (flag_by (is s) c) cs ≡ is t
      on None a f rest = absurd (stuck cs t f)
      on (Some u) a f rest = ap (λ (flag : Bool). fold flag_by flag cs) a ∙ rest u f

pub open_request : (cs : List Call) (t : LaneState) → state_after cs ≡ Some t → fold request_by false cs ≡ is_requested t
open_request cs t e = flags request_by is_requested one_request cs Free t e

pub open_response : (cs : List Call) (t : LaneState) → state_after cs ≡ Some t → fold response_by false cs ≡ is_responding t
open_response cs t e = flags response_by is_responding one_response cs Free t e
