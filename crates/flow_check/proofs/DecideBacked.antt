-- A test whether the events before an event back it.
use Rattle.std.proofs.Common.{◌≡◌, ℕ, zero, suc, ◌+◌, List, [], ◌∷◌, drop, get_or, Option, Some, None, true, false, Bool, refl, arith, subst, ◌⊎◌, inl, inr}
use Rattle.std.specs.Prelude.{◌-◌}
use Rattle.tlm_types.specs.declared.words.ObjectNo.{ObjectNo}
use Rattle.tlm_types.specs.declared.words.ObjectNo.TheVariants.{Memory, Hop, Pool}
use Rattle.tlm_types.specs.declared.words.Phase.{Phase}
use Rattle.tlm_types.specs.declared.words.Phase.TheVariants.{BeginReq, EndReq, BeginResp, EndResp}
use Rattle.tlm_types.specs.declared.words.TlmSync.{TlmSync}
use Rattle.tlm_types.specs.declared.words.TlmSync.TheVariants.{Accepted, Updated, Completed}
use Rattle.tlm_types.specs.declared.words.TxnId.{TxnId}
use Rattle.tlm_types.specs.declared.words.ReqMode.TheVariants.{Accept, Short}
use Rattle.tlm_types.specs.declared.entry.What.{What}
use Rattle.tlm_types.specs.declared.entry.What.TheVariants.{Access as Accessed, Call, Take, Acquire, Release}
use Rattle.tlm_model.specs.Route.{later}
use Rattle.flow_model.specs.Board.{ends_response}
use Rattle.flow_model.specs.World.{World, Passage, hop_at, hop_count, row_of}
use Rattle.flow_model.specs.Events.{Event, Among, Finds, FindsAt, IsCall, IsPhase, IsOwn, IsTake, IsAcquire, IsAccess}
use Rattle.flow_model.specs.Numbers.{ArrIs, EndIs, BringsResponse, IsByReturn, IsEnder, IsEnding, IsResponding, IsResponse, NumberOf, Past, ReqIs, RspFrom, UpFrom, released_hop, served_hop}
use Rattle.flow_model.specs.Backed.{AccessBacked, AcquireBacked, BackedBy, CallAfter, CallBacked, Delays, EndsRequest, EndsRequestBy, EndsResponse, IsBacked, ReleaseBacked, SequenceBacked, TimeBacked}
use Rattle.flow_check.proofs.Decide.{bind, either, find, find_at, guard_accept, guard_less, guard_true, is_mode, is_phase, is_same_object, is_same_txn, less, same_nat}

-- kinds of entries
abbrev own_by : (x : TxnId) (o : ℕ) (e : Event) → e.object ≡ Hop o → e.txn ≡ x → (v : What) → e.what ≡ v → Option (IsOwn x o e)
own_by x o e d t (Call p a) v = Some (record { phase = p; answer = a; call = record { object = d; txn = t; what = v } })
own_by x o e d t _ v = None

abbrev pub is_own : (x : TxnId) (o : ℕ) (e : Event) → Option (IsOwn x o e)
is_own x o e = bind (is_same_object (Hop o) e.object) (λ d. bind (is_same_txn x e.txn) (λ t. own_by x o e d t e.what refl))

abbrev phase_by : (x : TxnId) (o : ℕ) (p : Phase) (e : Event) (q : Phase) (a : TlmSync) → IsCall x o q a e → Option (q ≡ p) → Option (IsPhase x o p e)
phase_by x o p e q a c None = None
phase_by x o p e q a c (Some s) = Some (record { answer = a; call = subst (λ (r : Phase). IsCall x o r a e) s c })

abbrev pub has_phase : (x : TxnId) (o : ℕ) (p : Phase) (e : Event) → Option (IsPhase x o p e)
has_phase x o p e = bind (is_own x o e) (λ c. phase_by x o p e c.phase c.answer c.call (is_phase p c.phase))

abbrev ending_by : (p : Phase) (a : TlmSync) → Option (IsEnding p a)
ending_by EndResp a = Some tt
ending_by BeginReq Completed = Some tt
ending_by BeginResp (Updated p) = Some tt
ending_by BeginResp Completed = Some tt
ending_by _ _ = None

abbrev pub is_ender : (x : TxnId) (o : ℕ) (e : Event) → Option (IsEnder x o e)
is_ender x o e = bind (is_own x o e) (λ c. bind (ending_by c.phase c.answer) (λ q. Some (record { phase = c.phase; answer = c.answer; call = c.call; ends = q })))

abbrev responding_by : (p : Phase) (a : TlmSync) → Option (IsResponding p a)
responding_by BeginResp a = Some tt
responding_by BeginReq (Updated BeginResp) = Some tt
responding_by BeginReq Completed = Some tt
responding_by _ _ = None

abbrev is_response : (x : TxnId) (o : ℕ) (e : Event) → Option (IsResponse x o e)
is_response x o e = bind (is_own x o e) (λ c. bind (responding_by c.phase c.answer) (λ q. Some (record { phase = c.phase; answer = c.answer; call = c.call; responds = q })))

abbrev brings_by : (a : TlmSync) → Option (IsByReturn a)
brings_by (Updated BeginResp) = Some tt
brings_by Completed = Some tt
brings_by _ = None

abbrev is_answered : (x : TxnId) (o : ℕ) (e : Event) → Option (BringsResponse x o e)
is_answered x o e = bind (has_phase x o BeginReq e) (λ c. bind (brings_by c.answer) (λ q. Some (record { answer = c.answer; call = c.call; brings = q })))

abbrev completed_by : (x : TxnId) (o : ℕ) (e : Event) (a : TlmSync) → IsCall x o BeginReq a e → Option (IsCall x o BeginReq Completed e)
completed_by x o e Completed c = Some c
completed_by x o e _ c = None

abbrev is_completed : (x : TxnId) (o : ℕ) (e : Event) → Option (IsCall x o BeginReq Completed e)
is_completed x o e = bind (has_phase x o BeginReq e) (λ c. completed_by x o e c.answer c.call)

abbrev take_by : (x : TxnId) (e : Event) → e.object ≡ Pool x.initiator → e.txn ≡ x → (v : What) → e.what ≡ v → Option (IsTake x e)
take_by x e d t (Take s) v = Some (record { object = d; txn = t; slot = s; what = v })
take_by x e d t _ v = None

abbrev pub is_take : (x : TxnId) (e : Event) → Option (IsTake x e)
is_take x e = bind (is_same_object (Pool x.initiator) e.object) (λ d. bind (is_same_txn x e.txn) (λ t. take_by x e d t e.what refl))

abbrev acquire_by : (x : TxnId) (k : ℕ) (e : Event) → e.object ≡ Pool x.initiator → e.txn ≡ x → e.number ≡ k → (v : What) → e.what ≡ v → Option (IsAcquire x k e)
acquire_by x k e d t n (Acquire s) v = Some (record { object = d; txn = t; number = n; slot = s; what = v })
acquire_by x k e d t n _ v = None

abbrev is_acquire : (x : TxnId) (k : ℕ) (e : Event) → Option (IsAcquire x k e)
is_acquire x k e = bind (is_same_object (Pool x.initiator) e.object) (λ d. bind (is_same_txn x e.txn) (λ t. bind (same_nat e.number k) (λ n. acquire_by x k e d t n e.what refl)))

abbrev access_by : (x : TxnId) (e : Event) → e.txn ≡ x → (d : ObjectNo) → e.object ≡ d → (v : What) → e.what ≡ v → Option (IsAccess x e)
access_by x e t (Memory m) d (Accessed way access status got) v = Some (record { memory = m; object = d; txn = t; way = way; access = access; status = status; got = got; what = v })
access_by x e t _ d _ v = None

abbrev pub is_access : (x : TxnId) (e : Event) → Option (IsAccess x e)
is_access x e = bind (is_same_txn x e.txn) (λ t. access_by x e t e.object refl e.what refl)

pub no_next : (j : ℕ) → ¬ (0 ≡ j + 1)
no_next j q = omega arith

pub same_next : (m j : ℕ) → suc m ≡ j + 1 → m ≡ j
same_next m j q = omega arith

pub same_last : (n k c : ℕ) → n + 1 ≡ c → k + 1 ≡ c → n ≡ k
same_last n k c q r = omega arith

-- the place of a hop in a list, from k on
pub record PlaceOf (all : List ℕ) (o : ℕ) : Type 0 where
  pub index : ℕ
  pub is : get_or all index 0 ≡ o

abbrev place_from : (all : List ℕ) (o : ℕ) (left k : ℕ) → Option (PlaceOf all o)
place_from all o zero k = None
place_from all o (suc left) k = either (bind (same_nat (get_or all k 0) o) (λ q. Some (record { index = k; is = q }))) (place_from all o left (k + 1))

-- the numbers of the times, with what shows them
module _ (w : World) (before : List Event) (x : TxnId) where
  abbrev At : (ℕ → Type 0) → Type 0
  At P = (t : ℕ) × P t

  abbrev at_phase : (o : ℕ) (p : Phase) → Option (At (λ t. FindsAt (Among before) (IsPhase x o p) t))
  at_phase o p = bind (find (IsPhase x o p) (has_phase x o p) before) (λ f. Some (f.event.time, record { event = f.event; known = f.known; is = f.is; time = refl }))

  abbrev past : (o : ℕ) → Option (At (λ t. Past w (Among before) x o t))
  past o = bind (at_phase o BeginReq) (λ r. Some (later r.0 (w.hop o).latency, record { req = r.0; is_req = r.1; sum = refl }))

  abbrev arr : (pass : Passage) (k : ℕ) → Option (At (λ t. ArrIs w (Among before) x pass k t))
  arr pass zero = bind (find (IsTake x) (is_take x) before) (λ f. Some (f.event.time, record { event = f.event; known = f.known; is = f.is; time = refl }))
  arr pass (suc k) = past (hop_at pass k)

  abbrev up : (o : ℕ) (rest : List ℕ) → Option (At (λ t. UpFrom w (Among before) x o rest t))
  up o [] = past o
  up o (p ∷ rest) =
      either (bind (at_phase p BeginResp) (λ f. Some (f.0, inl f.1)))
      (bind (find (BringsResponse x p) (is_answered x p) before) (λ f. bind (up p rest) (λ u. Some (u.0, inr (f, u.1)))))

  abbrev rsp : (o : ℕ) (rest : List ℕ) → Option (At (λ t. RspFrom w (Among before) x o rest t))
  rsp o rest =
      either (bind (at_phase o BeginResp) (λ f. Some (f.0, inl f.1)))
      (bind (find (BringsResponse x o) (is_answered x o) before) (λ f. bind (up o rest) (λ u. Some (u.0, inr (f, u.1)))))

  abbrev by_response : (o : ℕ) (e : Event) → Option (IsEnder x o e × (IsPhase x o BeginResp e ⊎ IsPhase x o EndResp e))
  by_response o e = bind (is_ender x o e) (λ n. either (bind (has_phase x o BeginResp e) (λ q. Some (n, inl q))) (bind (has_phase x o EndResp e) (λ q. Some (n, inr q))))

  abbrev end_at : (pass : Passage) (k t : ℕ) → Option (EndIs w (Among before) x pass k t)
  end_at pass k t =
      either (bind (find (IsCall x (hop_at pass k) BeginReq Completed) (is_completed x (hop_at pass k)) before) (λ f. bind (rsp (hop_at pass k) (drop (k + 1) pass.hops)) (λ r. bind (same_nat r.0 t) (λ q. Some (inl (f, subst (λ (n : ℕ). RspFrom w (Among before) x (hop_at pass k) (drop (k + 1) pass.hops) n) q r.1))))))
      (bind (find_at (λ e. IsEnder x (hop_at pass k) e × (IsPhase x (hop_at pass k) BeginResp e ⊎ IsPhase x (hop_at pass k) EndResp e)) (by_response (hop_at pass k)) t before) (λ f. Some (inr f)))

  abbrev number : (pass : Passage) (k : ℕ) (p : Phase) → Option (At (λ t. NumberOf w (Among before) x pass k p t))
  number pass k BeginReq = arr pass k
  number pass k EndReq = at_phase (served_hop (w.hop (hop_at pass k)).to_memory pass k) BeginReq
  number pass k BeginResp = up (hop_at pass k) (drop (k + 1) pass.hops)
  number pass zero EndResp = rsp (hop_at pass 0) (drop (0 + 1) pass.hops)
  number pass (suc k) EndResp = rsp (hop_at pass k) (drop (k + 1) pass.hops)

  abbrev taken : Option (Finds (Among before) (IsTake x))
  taken = find (IsTake x) (is_take x) before

  abbrev ended : (pass : Passage) (k : ℕ) → Option ((j : ℕ) → k ≡ j + 1 → Finds (Among before) (IsEnder x (hop_at pass j)))
  ended pass zero = Some (λ j q. absurd (no_next j q))
  ended pass (suc m) = bind (find (IsEnder x (hop_at pass m)) (is_ender x (hop_at pass m)) before) (λ f. Some (λ j q. subst (λ (i : ℕ). Finds (Among before) (IsEnder x (hop_at pass i))) (same_next m j q) f))

  abbrev begun : (pass : Passage) (k : ℕ) → Option ((j : ℕ) → k ≡ j + 1 → Finds (Among before) (IsPhase x (hop_at pass j) BeginReq))
  begun pass zero = Some (λ j q. absurd (no_next j q))
  begun pass (suc m) = bind (find (IsPhase x (hop_at pass m) BeginReq) (has_phase x (hop_at pass m) BeginReq) before) (λ f. Some (λ j q. subst (λ (i : ℕ). Finds (Among before) (IsPhase x (hop_at pass i) BeginReq)) (same_next m j q) f))

  abbrev after : (pass : Passage) (k : ℕ) (p : Phase) → Option (CallAfter w (Among before) x pass k p)
  after pass k BeginReq = bind taken (λ t. bind (find (IsAcquire x k) (is_acquire x k) before) (λ a. Some (record { taken = t; acquired = a })))
  after pass k EndReq = bind taken (λ t. bind (guard_less (k + 1) (hop_count pass) (find (IsPhase x (hop_at pass (k + 1)) BeginReq) (has_phase x (hop_at pass (k + 1)) BeginReq) before)) (λ a. Some (record { taken = t; passed = a })))
  after pass k BeginResp =
      bind taken (λ t. bind (guard_true pass.routed (find (IsAccess x) (is_access x) before)) (λ s.
      bind (guard_less (k + 1) (hop_count pass) (find (IsResponse x (hop_at pass (k + 1))) (is_response x (hop_at pass (k + 1))) before)) (λ a. Some (record { taken = t; served = s; answered = a }))))
  after pass k EndResp = bind taken (λ t. bind (ended pass k) (λ a. Some (record { taken = t; ended = a })))

  abbrev sequence : (pass : Passage) (k : ℕ) (p : Phase) → Option (SequenceBacked w (Among before) x pass k p)
  sequence pass k EndReq = is_mode Accept (row_of w pass k)
  sequence pass k BeginResp = guard_accept (row_of w pass k) (find (IsPhase x (hop_at pass k) EndReq) (has_phase x (hop_at pass k) EndReq) before)
  sequence pass k BeginReq = Some tt
  sequence pass k EndResp = Some tt

abbrev ends_request_by : (n : ℕ) (p : Phase) (a : TlmSync) → Option (EndsRequestBy n p a)
ends_request_by n EndReq a = Some tt
ends_request_by n BeginReq Accepted = None
ends_request_by n BeginReq (Updated p) = Some tt
ends_request_by n BeginReq Completed = Some tt
ends_request_by n BeginResp a = same_nat n 1
ends_request_by n EndResp a = None

abbrev ends_request : (o : ℕ) (e : Event) → Option (EndsRequest o e)
ends_request o e = bind (is_own e.txn o e) (λ c. bind (ends_request_by e.number c.phase c.answer) (λ q. Some (record { phase = c.phase; answer = c.answer; call = c.call; ends = q })))

abbrev truth : (b : Bool) → Option (b ≡ true)
truth true = Some refl
truth false = None

abbrev ends_response_of : (o : ℕ) (e : Event) → Option (EndsResponse o e)
ends_response_of o e = bind (is_own e.txn o e) (λ c. bind (truth (ends_response c.phase c.answer)) (λ q. Some (record { phase = c.phase; answer = c.answer; call = c.call; ends = q })))

abbrev delays : (o : ℕ) (p : Phase) (e : Event) → Option (Delays o p e)
delays o BeginReq e = ends_request o e
delays o EndReq e = None
delays o BeginResp e = ends_response_of o e
delays o EndResp e = None

module _ (w : World) (before : List Event) (x : TxnId) where
  abbrev own_or_delay : (o : ℕ) (p : Phase) (e : Event) → Option (IsOwn x o e ⊎ Delays o p e)
  own_or_delay o p e = either (bind (is_own x o e) (λ c. Some (inl c))) (bind (delays o p e) (λ c. Some (inr c)))

  abbrev later_call : (pass : Passage) (k : ℕ) (p : Phase) (t : ℕ) → Option (FindsAt (Among before) (λ f. IsOwn x (hop_at pass k) f ⊎ Delays (hop_at pass k) p f) t)
  later_call pass k p t = find_at (λ f. IsOwn x (hop_at pass k) f ⊎ Delays (hop_at pass k) p f) (own_or_delay (hop_at pass k) p) t before

  abbrev time_backed : (pass : Passage) (k : ℕ) (p : Phase) (t : ℕ) → Option (TimeBacked w (Among before) x pass k p t)
  time_backed pass k p t =
      bind (number w before x pass k p) (λ n.
      either (bind (same_nat t n.0) (λ q. Some (record { number = n.0; is_number = n.1; time = inl q })))
      (bind (less n.0 t) (λ l. bind (later_call pass k p t) (λ f. Some (record { number = n.0; is_number = n.1; time = inr (l, f) })))))

  abbrev call_at : (pass : Passage) (o t : ℕ) (p : Phase) → PlaceOf pass.hops o → Option (CallBacked w (Among before) x pass o t p)
  call_at pass o t p g =
      bind (less g.index (hop_count pass)) (λ l. bind (after w before x pass g.index p) (λ a. bind (time_backed pass g.index p t) (λ u. bind (sequence w before x pass g.index p) (λ s.
      Some (record { hop = g.index; below = l; place = g.is; order = a; time = u; sequence = s })))))

  abbrev acquire_at : (pass : Passage) (n t : ℕ) → Option (AcquireBacked w (Among before) x pass n t)
  acquire_at pass n t =
      bind (less n (hop_count pass)) (λ l. bind (begun w before x pass n) (λ b. bind (arr w before x pass n) (λ a. bind (same_nat a.0 t) (λ q.
      Some (record { below = l; order = record { begun = b }; time = subst (λ (m : ℕ). ArrIs w (Among before) x pass n m) q a.1 })))))

  abbrev release_at : (pass : Passage) (n t : ℕ) → Option (ReleaseBacked w (Among before) x pass n t)
  release_at pass n t =
      bind (less (released_hop n) (hop_count pass)) (λ l. bind (find (IsEnder x (hop_at pass (released_hop n))) (is_ender x (hop_at pass (released_hop n))) before) (λ f.
      bind (end_at w before x pass (released_hop n) t) (λ e. bind (guard_true pass.routed (find (IsAccess x) (is_access x) before)) (λ s.
      Some (record { below = l; ended = f; time = e; served = s })))))

  -- the last hop of a way
  abbrev last_hop : (pass : Passage) (P : ℕ → Type 0) (n : ℕ) → Option (P n) → n + 1 ≡ hop_count pass → Option ((k : ℕ) → k + 1 ≡ hop_count pass → P k)
  last_hop pass P n None q = None
  last_hop pass P n (Some a) q = Some (λ k r. subst P (same_last n k (hop_count pass) q r) a)

  abbrev access_at : (pass : Passage) (t : ℕ) → Option (AccessBacked w (Among before) x pass t)
  access_at pass t =
      bind (same_nat (hop_count pass - 1 + 1) (hop_count pass)) (λ q. bind (taken w before x) (λ a.
      bind (last_hop pass (λ k. Finds (Among before) (IsPhase x (hop_at pass k) BeginReq)) (hop_count pass - 1) (find (IsPhase x (hop_at pass (hop_count pass - 1)) BeginReq) (has_phase x (hop_at pass (hop_count pass - 1)) BeginReq) before) q) (λ b.
      bind (last_hop pass (λ k. ReqIs w (Among before) x (hop_at pass k) t) (hop_count pass - 1) (find_at (IsPhase x (hop_at pass (hop_count pass - 1)) BeginReq) (has_phase x (hop_at pass (hop_count pass - 1)) BeginReq) t before) q) (λ r.
      Some (record { order = record { taken = a; begun = b }; time = r })))))

  abbrev backed_by : (f : Option Passage) (d : ObjectNo) (t n : ℕ) (v : What) → Option (BackedBy w (Among before) x f d t n v)
  backed_by (Some pass) (Hop o) t n (Call p a) = bind (place_from pass.hops o (hop_count pass) 0) (λ g. call_at pass o t p g)
  backed_by (Some pass) (Pool i) t n (Take s) = same_nat i x.initiator
  backed_by (Some pass) (Pool i) t n (Acquire s) = bind (same_nat i x.initiator) (λ q. bind (acquire_at pass n t) (λ a. Some (q, a)))
  backed_by (Some pass) (Pool i) t n (Release s freed) = bind (same_nat i x.initiator) (λ q. bind (release_at pass n t) (λ a. Some (q, a)))
  backed_by (Some pass) (Memory m) t n (Accessed way access status got) = access_at pass t
  backed_by None (Hop o) t n (Call p a) = None
  backed_by None (Pool i) t n (Take s) = None
  backed_by None (Pool i) t n (Acquire s) = None
  backed_by None (Pool i) t n (Release s freed) = None
  backed_by _ _ t n _ = Some tt

abbrev pub is_backed : (w : World) (before : List Event) (e : Event) → Option (IsBacked w (Among before) e)
is_backed w before e = backed_by w before e.txn (w.passage e.txn) e.object e.time e.number e.what
