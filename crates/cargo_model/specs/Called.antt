-- What is known of the calls of an access on one hop, and how many of its tickets there are left.
use Rattle.std.specs.Prelude.{ℕ, ◌≡◌, ◌+◌, ◌⊎◌, List, [], ◌∷◌}
use Rattle.tlm_types.specs.declared.words.Phase.{Phase}
use Rattle.tlm_types.specs.declared.words.Phase.TheVariants.{BeginReq, EndReq, BeginResp, EndResp}
use Rattle.tlm_types.specs.declared.words.TlmSync.{TlmSync}
use Rattle.tlm_types.specs.declared.words.TlmSync.TheVariants.{Accepted, Updated, Completed}
use Rattle.tlm_types.specs.declared.words.ReqMode.{ReqMode}
use Rattle.tlm_types.specs.declared.words.ReqMode.TheVariants as Req
use Rattle.tlm_types.specs.declared.words.TxnId.{TxnId}
use Rattle.base_phases.specs.Sequences.{Call}
use Rattle.flow_model.specs.World.{Passage, World, hop_at, row_of}
use Rattle.flow_model.specs.Events.{Event, Finds, IsCall}
use Rattle.flow_model.specs.Called.{HasCalled}
use Rattle.cargo_model.specs.Counts.{calls_up, responses}

-- the answers that the row has for BEGIN_REQ
abbrev pub IsAnswerIn : ReqMode → TlmSync → Type 0
IsAnswerIn Req.Accept answer = answer ≡ Accepted
IsAnswerIn Req.Short answer = answer ≡ Accepted
IsAnswerIn Req.EndReq answer = answer ≡ Updated EndReq
IsAnswerIn Req.BeginResp answer = (answer ≡ Updated BeginResp) ⊎ (answer ≡ Updated EndReq)
IsAnswerIn Req.Complete answer = answer ≡ Completed

-- how many of the calls are END_RESPs
abbrev pub with_end : Phase → ℕ → ℕ
with_end EndResp n = 1 + n
with_end _ n = n

abbrev pub ends_in : List Call → ℕ
ends_in [] = 0
ends_in (c ∷ cs) = with_end c.0 (ends_in cs)

module _ (w : World) (K : Event → Type 0) (x : TxnId) (pass : Passage) where
  -- of the four tickets of hop k those are left that a known sequence doesn't need
  pub record IsCalled (k left : ℕ) : Type 0 where
    pub calls : ℕ
    pub called : HasCalled w K x pass k calls
    pub sum : left + calls ≡ 4

  -- The response is back: its calls are known. Where END_RESP is owed, its ticket is still there.
  pub record IsReturned (k owed left : ℕ) : Type 0 where
    pub calls : ℕ
    pub called : HasCalled w K x pass k calls
    pub sum : left + calls ≡ 4 + owed
    pub ends : ends_in called.sequence ≡ owed

  -- The ticket of BEGIN_RESP on hop k was pulled: the calls before it are known, with answers that the row has.
  pub record IsSent (k left : ℕ) : Type 0 where
    pub answer : TlmSync
    pub fits : IsAnswerIn (row_of w pass k) answer
    pub begun : Finds K (IsCall x (hop_at pass k) BeginReq answer)
    pub ended : row_of w pass k ≡ Req.Accept → Finds K (IsCall x (hop_at pass k) EndReq Accepted)
    pub responds : responses (row_of w pass k) answer ≡ 1
    pub sum : left + calls_up (row_of w pass k) answer ≡ 4
