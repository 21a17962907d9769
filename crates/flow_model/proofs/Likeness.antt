-- Events that differ in the numbers of Releases alone give the same orders and times.
use Rattle.std.proofs.Common.{◌≡◌, ℕ, zero, suc, ◌+◌, List, [], ◌∷◌, drop, ap, sym, ◌∙◌, subst, ◌⊎◌, inl, inr}
use Rattle.tlm_types.specs.declared.words.ObjectNo.TheVariants.{Pool}
use Rattle.tlm_types.specs.declared.words.Phase.{Phase}
use Rattle.tlm_types.specs.declared.words.Phase.TheVariants.{BeginReq, EndReq, BeginResp, EndResp}
use Rattle.tlm_types.specs.declared.words.TlmSync.{TlmSync}
use Rattle.tlm_types.specs.declared.words.TxnId.{TxnId}
use Rattle.tlm_types.specs.declared.entry.Entry.{Entry}
use Rattle.tlm_types.specs.declared.entry.What.TheVariants.{Acquire}
use Rattle.flow_model.specs.World.{World, Passage, hop_at}
use Rattle.flow_model.specs.Events.{Event, Finds, FindsAt, IsCall, IsPhase, IsOwn, IsTake, IsAcquire, IsAccess}
use Rattle.flow_model.specs.Numbers.{Past, ArrIs, UpFrom, RspFrom, EndIs, NumberOf, IsEnder, IsResponse, BringsResponse}
use Rattle.flow_model.specs.Backed.{CallAfter, AccessAfter, AcquireAfter, EndsResponse}

-- f is e, but for its number, which an Acquire at the pool of its initiator keeps
pub record Same (e f : Event) : Type 0 where
  pub entry : f.entry ≡ e.entry
  pub number : (slot : ℕ) → e.what ≡ Acquire slot → e.object ≡ Pool e.txn.initiator → f.number ≡ e.number

same_object : (e f : Event) → Same e f → f.object ≡ e.object
same_object e f s = ap (λ (d : Entry). d.object) s.entry

same_txn : (e f : Event) → Same e f → f.txn ≡ e.txn
same_txn e f s = ap (λ (d : Entry). d.txn) s.entry

same_what : (e f : Event) → Same e f → f.what ≡ e.what
same_what e f s = ap (λ (d : Entry). d.what) s.entry

pub same_time : (e f : Event) → Same e f → f.time ≡ e.time
same_time e f s = ap (λ (d : Entry). d.time) s.entry

-- a kind of events that such events share
unfoldable pub IsKind : (Event → Type 0) → Type 0
IsKind P = (e f : Event) → Same e f → P e → P f

same_call : (x : TxnId) (o : ℕ) (p : Phase) (a : TlmSync) (e f : Event) → Same e f → IsCall x o p a e → IsCall x o p a f
same_call x o p a e f s c = record { object = same_object e f s ∙ c.object; txn = same_txn e f s ∙ c.txn; what = same_what e f s ∙ c.what }

pub call_kind : (x : TxnId) (o : ℕ) (p : Phase) (a : TlmSync) → IsKind (IsCall x o p a)
unfolding IsKind
call_kind x o p a e f s c = same_call x o p a e f s c

pub phase_kind : (x : TxnId) (o : ℕ) (p : Phase) → IsKind (IsPhase x o p)
unfolding IsKind
phase_kind x o p e f s c = record { answer = c.answer; call = same_call x o p c.answer e f s c.call }

pub own_kind : (x : TxnId) (o : ℕ) → IsKind (IsOwn x o)
unfolding IsKind
own_kind x o e f s c = record { phase = c.phase; answer = c.answer; call = same_call x o c.phase c.answer e f s c.call }

pub take_kind : (x : TxnId) → IsKind (IsTake x)
unfolding IsKind
take_kind x e f s c = record { object = same_object e f s ∙ c.object; txn = same_txn e f s ∙ c.txn; slot = c.slot; what = same_what e f s ∙ c.what }

pub acquire_kind : (x : TxnId) (k : ℕ) → IsKind (IsAcquire x k)
unfolding IsKind
acquire_kind x k e f s c = record { object = same_object e f s ∙ c.object; txn = same_txn e f s ∙ c.txn; number = s.number c.slot c.what (c.object ∙ ap (λ (y : TxnId). Pool y.initiator) (sym c.txn)) ∙ c.number; slot = c.slot; what = same_what e f s ∙ c.what }

pub access_kind : (x : TxnId) → IsKind (IsAccess x)
unfolding IsKind
access_kind x e f s c = record { memory = c.memory; object = same_object e f s ∙ c.object; txn = same_txn e f s ∙ c.txn; way = c.way; access = c.access; status = c.status; got = c.got; what = same_what e f s ∙ c.what }

pub ender_kind : (x : TxnId) (o : ℕ) → IsKind (IsEnder x o)
unfolding IsKind
ender_kind x o e f s c = record { phase = c.phase; answer = c.answer; call = same_call x o c.phase c.answer e f s c.call; ends = c.ends }

pub response_kind : (x : TxnId) (o : ℕ) → IsKind (IsResponse x o)
unfolding IsKind
response_kind x o e f s c = record { phase = c.phase; answer = c.answer; call = same_call x o c.phase c.answer e f s c.call; responds = c.responds }

pub answered_kind : (x : TxnId) (o : ℕ) → IsKind (BringsResponse x o)
unfolding IsKind
answered_kind x o e f s c = record { answer = c.answer; call = same_call x o BeginReq c.answer e f s c.call; brings = c.brings }

pub ends_response_kind : (o : ℕ) → IsKind (EndsResponse o)
unfolding IsKind
ends_response_kind o e f s c =
    let here : IsCall e.txn o c.phase c.answer f = same_call e.txn o c.phase c.answer e f s c.call in
    record { phase = c.phase; answer = c.answer; call = subst (λ (y : TxnId). IsCall y o c.phase c.answer f) (sym (same_txn e f s)) here; ends = c.ends }

pub either_kind : (P Q : Event → Type 0) → IsKind P → IsKind Q → IsKind (λ e. P e ⊎ Q e)
unfolding IsKind
either_kind P Q p q e f s (inl c) = inl (p e f s c)
either_kind P Q p q e f s (inr c) = inr (q e f s c)

pub both_kind : (P Q : Event → Type 0) → IsKind P → IsKind Q → IsKind (λ e. P e × Q e)
unfolding IsKind
both_kind P Q p q e f s c = (p e f s c.0, q e f s c.1)

-- an event of L that is as e
pub record Like (L : Event → Type 0) (e : Event) : Type 0 where
  pub event : Event
  pub known : L event
  pub same : Same e event

module _ (w : World) (K L : Event → Type 0) (like : (e : Event) → K e → Like L e) (x : TxnId) where
  pub finds_like : (P : Event → Type 0) → IsKind P → Finds K P → Finds L P
  unfolding IsKind
  finds_like P kind f = let l = like f.event f.known in record { event = l.event; known = l.known; is = kind f.event l.event l.same f.is }

  pub finds_at_like : (P : Event → Type 0) → IsKind P → (t : ℕ) → FindsAt K P t → FindsAt L P t
  unfolding IsKind
  finds_at_like P kind t f = let l = like f.event f.known in record { event = l.event; known = l.known; is = kind f.event l.event l.same f.is; time = same_time f.event l.event l.same ∙ f.time }

  past_like : (o t : ℕ) → Past w K x o t → Past w L x o t
  past_like o t p = record { req = p.req; is_req = finds_at_like _ (phase_kind x o BeginReq) p.req p.is_req; sum = p.sum }

  pub arr_like : (pass : Passage) (k t : ℕ) → ArrIs w K x pass k t → ArrIs w L x pass k t
  arr_like pass zero t a = finds_at_like _ (take_kind x) t a
  arr_like pass (suc k) t a = past_like (hop_at pass k) t a

  pub req_like : (o t : ℕ) → FindsAt K (IsPhase x o BeginReq) t → FindsAt L (IsPhase x o BeginReq) t
  req_like o t a = finds_at_like _ (phase_kind x o BeginReq) t a

  pub up_like : (o : ℕ) (rest : List ℕ) (t : ℕ) → UpFrom w K x o rest t → UpFrom w L x o rest t
  up_like o [] t u = past_like o t u
  up_like o (p ∷ rest) t (inl f) = inl (finds_at_like _ (phase_kind x p BeginResp) t f)
  up_like o (p ∷ rest) t (inr f) = inr (finds_like _ (answered_kind x p) f.0, up_like p rest t f.1)

  pub rsp_like : (o : ℕ) (rest : List ℕ) (t : ℕ) → RspFrom w K x o rest t → RspFrom w L x o rest t
  rsp_like o rest t (inl f) = inl (finds_at_like _ (phase_kind x o BeginResp) t f)
  rsp_like o rest t (inr f) = inr (finds_like _ (answered_kind x o) f.0, up_like o rest t f.1)

  pub end_like : (pass : Passage) (k t : ℕ) → EndIs w K x pass k t → EndIs w L x pass k t
  end_like pass k t (inl f) = inl (finds_like _ (call_kind x (hop_at pass k) BeginReq _) f.0, rsp_like (hop_at pass k) (drop (k + 1) pass.hops) t f.1)
  end_like pass k t (inr f) = inr (finds_at_like _ (both_kind _ _ (ender_kind x (hop_at pass k)) (either_kind _ _ (phase_kind x (hop_at pass k) BeginResp) (phase_kind x (hop_at pass k) EndResp))) t f)

  pub number_like : (pass : Passage) (k : ℕ) (p : Phase) (t : ℕ) → NumberOf w K x pass k p t → NumberOf w L x pass k p t
  number_like pass k BeginReq t n = arr_like pass k t n
  number_like pass k EndReq t n = req_like _ t n
  number_like pass k BeginResp t n = up_like (hop_at pass k) (drop (k + 1) pass.hops) t n
  number_like pass zero EndResp t n = rsp_like (hop_at pass 0) (drop (0 + 1) pass.hops) t n
  number_like pass (suc k) EndResp t n = rsp_like (hop_at pass k) (drop (k + 1) pass.hops) t n

  pub after_like : (pass : Passage) (k : ℕ) (p : Phase) → CallAfter w K x pass k p → CallAfter w L x pass k p
  after_like pass k BeginReq a = record { taken = finds_like _ (take_kind x) a.taken; acquired = finds_like _ (acquire_kind x k) a.acquired }
  after_like pass k EndReq a = record { taken = finds_like _ (take_kind x) a.taken; passed = λ r. finds_like _ (phase_kind x (hop_at pass (k + 1)) BeginReq) (a.passed r) }
  after_like pass k BeginResp a = record { taken = finds_like _ (take_kind x) a.taken; served = λ r. finds_like _ (access_kind x) (a.served r); answered = λ r. finds_like _ (response_kind x (hop_at pass (k + 1))) (a.answered r) }
  after_like pass k EndResp a = record { taken = finds_like _ (take_kind x) a.taken; ended = λ j r. finds_like _ (ender_kind x (hop_at pass j)) (a.ended j r) }

  pub acquire_like : (pass : Passage) (n : ℕ) → AcquireAfter w K x pass n → AcquireAfter w L x pass n
  acquire_like pass n a = record { begun = λ j q. finds_like _ (phase_kind x (hop_at pass j) BeginReq) (a.begun j q) }

  pub access_like : (pass : Passage) → AccessAfter w K x pass → AccessAfter w L x pass
  access_like pass a = record { taken = finds_like _ (take_kind x) a.taken; begun = λ k q. finds_like _ (phase_kind x (hop_at pass k) BeginReq) (a.begun k q) }
