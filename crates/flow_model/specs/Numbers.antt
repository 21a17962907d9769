-- The times that the known entries of an access give for its other entries (IEEE 1666-2011, clause 15.2: timing annotation
-- adds up along the hops).
use Rattle.std.specs.Prelude.{ℕ, zero, suc, ◌≡◌, ◌+◌, List, [], ◌∷◌, drop, Bool, true, false, if◌then◌else◌, ◌⊎◌, ◌==◌}
use Rattle.tlm_types.specs.declared.words.Phase.{Phase}
use Rattle.tlm_types.specs.declared.words.Phase.TheVariants.{BeginReq, EndReq, BeginResp, EndResp}
use Rattle.tlm_types.specs.declared.words.TlmSync.{TlmSync}
use Rattle.tlm_types.specs.declared.words.TlmSync.TheVariants.{Updated, Completed}
use Rattle.tlm_types.specs.declared.words.TxnId.{TxnId}
use Rattle.tlm_model.specs.Route.{later}
use Rattle.flow_model.specs.World.{World, Passage, hop_at}
use Rattle.flow_model.specs.Events.{Event, Finds, FindsAt, IsCall, IsPhase, IsTake}

-- an answer that gives the response with the request
abbrev pub IsByReturn : TlmSync → Type 0
IsByReturn (Updated BeginResp) = Unit {0}
IsByReturn Completed = Unit {0}
IsByReturn _ = ⊥

-- a call that ends a sequence
abbrev pub IsEnding : Phase → TlmSync → Type 0
IsEnding EndResp a = Unit {0}
IsEnding BeginReq Completed = Unit {0}
IsEnding BeginResp (Updated p) = Unit {0}
IsEnding BeginResp Completed = Unit {0}
IsEnding _ _ = ⊥

pub record IsEnder (x : TxnId) (o : ℕ) (e : Event) : Type 0 where
  pub phase : Phase
  pub answer : TlmSync
  pub call : IsCall x o phase answer e
  pub ends : IsEnding phase answer

-- a response of x on a hop: a BEGIN_RESP, or a BEGIN_REQ that was answered with it
abbrev pub IsResponding : Phase → TlmSync → Type 0
IsResponding BeginResp a = Unit {0}
IsResponding BeginReq (Updated BeginResp) = Unit {0}
IsResponding BeginReq Completed = Unit {0}
IsResponding _ _ = ⊥

pub record IsResponse (x : TxnId) (o : ℕ) (e : Event) : Type 0 where
  pub phase : Phase
  pub answer : TlmSync
  pub call : IsCall x o phase answer e
  pub responds : IsResponding phase answer

-- a BEGIN_REQ that brought the response
pub record BringsResponse (x : TxnId) (o : ℕ) (e : Event) : Type 0 where
  pub answer : TlmSync
  pub call : IsCall x o BeginReq answer e
  pub brings : IsByReturn answer

-- the hop whose end a Release with this number has: that of its Acquire, and hop 0 for the initiator's own reference
abbrev pub released_hop : ℕ → ℕ
released_hop n = if n == 15 then 0 else n

-- the hop whose BEGIN_REQ tells END_REQ's time: this one where the callee is a memory, else the next
abbrev pub served_hop : Bool → Passage → ℕ → ℕ
served_hop true pass k = hop_at pass k
served_hop false pass k = hop_at pass (k + 1)

-- the numbers of the times, as far as the known entries K give them: arr, req, up, rsp, end
module _ (w : World) (K : Event → Type 0) (x : TxnId) where
  -- req: the time of BEGIN_REQ on the hop
  abbrev pub ReqIs : ℕ → ℕ → Type 0
  ReqIs o t = FindsAt K (IsPhase x o BeginReq) t

  -- a time, and the latency of the component below the hop
  pub record Past (o : ℕ) (t : ℕ) : Type 0 where
    pub req : ℕ
    pub is_req : ReqIs o req
    pub sum : t ≡ later req (w.hop o).latency

  -- arr(k)
  abbrev pub ArrIs : Passage → ℕ → ℕ → Type 0
  ArrIs pass zero t = FindsAt K (IsTake x) t
  ArrIs pass (suc k) t = Past (hop_at pass k) t

  -- up of the hop o, after which these hops are passed
  abbrev pub UpFrom : ℕ → List ℕ → ℕ → Type 0
  UpFrom o [] t = Past o t
  UpFrom o (p ∷ rest) t = FindsAt K (IsPhase x p BeginResp) t ⊎ (Finds K (BringsResponse x p) × UpFrom p rest t)

  -- rsp of the hop o: up where the request was answered with the response, else the time of BEGIN_RESP
  abbrev pub RspFrom : ℕ → List ℕ → ℕ → Type 0
  RspFrom o rest t = FindsAt K (IsPhase x o BeginResp) t ⊎ (Finds K (BringsResponse x o) × UpFrom o rest t)

  abbrev pub UpIs : Passage → ℕ → ℕ → Type 0
  UpIs pass k t = UpFrom (hop_at pass k) (drop (k + 1) pass.hops) t

  abbrev pub RspIs : Passage → ℕ → ℕ → Type 0
  RspIs pass k t = RspFrom (hop_at pass k) (drop (k + 1) pass.hops) t

  -- end of hop k: rsp where BEGIN_REQ was answered COMPLETED, else the time of the call that ended the sequence
  abbrev pub EndIs : Passage → ℕ → ℕ → Type 0
  EndIs pass k t =
      (Finds K (IsCall x (hop_at pass k) BeginReq Completed) × RspIs pass k t)
      ⊎ (FindsAt K (λ e. IsEnder x (hop_at pass k) e × (IsPhase x (hop_at pass k) BeginResp e ⊎ IsPhase x (hop_at pass k) EndResp e)) t)

  -- which number is the least time of a call
  abbrev pub NumberOf : Passage → ℕ → Phase → ℕ → Type 0
  NumberOf pass k BeginReq t = ArrIs pass k t
  NumberOf pass k EndReq t = ReqIs (served_hop (w.hop (hop_at pass k)).to_memory pass k) t
  NumberOf pass k BeginResp t = UpIs pass k t
  NumberOf pass zero EndResp t = RspIs pass zero t
  NumberOf pass (suc k) EndResp t = RspIs pass k t
