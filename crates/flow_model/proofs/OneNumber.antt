-- Each number of the times is one.
use Rattle.std.proofs.Common.{◌≡◌, ℕ, zero, suc, ◌+◌, List, [], ◌∷◌, drop, refl, ap, sym, ◌∙◌, subst, ◌⊎◌, inl, inr, Some}
use Rattle.tlm_types.specs.declared.words.ObjectNo.TheVariants.{Pool}
use Rattle.tlm_types.specs.declared.words.Phase.{Phase}
use Rattle.tlm_types.specs.declared.words.Phase.TheVariants.{BeginReq, BeginResp, EndResp}
use Rattle.tlm_types.specs.declared.words.TlmSync.{TlmSync}
use Rattle.tlm_types.specs.declared.words.TlmSync.TheVariants.{Completed}
use Rattle.tlm_types.specs.declared.entry.Entry.{Entry}
use Rattle.tlm_types.specs.declared.words.TxnId.{TxnId}
use Rattle.tlm_types.specs.declared.entry.What.TheVariants.{Call}
use Rattle.tlm_model.specs.Route.{later}
use Rattle.flow_model.specs.Events.{Event, Among, Finds, FindsAt, IsCall, IsPhase, IsOwn, IsTakeOf, at, IsAcquire}
use Rattle.flow_model.specs.Numbers.{ReqIs, Past, ArrIs, UpFrom, RspFrom, EndIs, BringsResponse, IsEnder}
use Rattle.flow_model.specs.World.{World, Passage, hop_at}
use Rattle.flow_model.specs.Ending.{IsOneNumber}
use Rattle.flow_model.proofs.Forms.{says, sayings, Given, AtSplits, acquires}
use Rattle.flow_model.proofs.Freed.{quiet, quiet_in}
use Rattle.flow_model.proofs.Lives.{number_counted}
use Rattle.flow_model.proofs.Once.{once_same, among_order, Precedes}
use Rattle.flow_model.proofs.Sayings.{said_in}
use Rattle.flow_model.proofs.Splits.{among_at, at-split}
use Rattle.flow_model.proofs.Steps.{came}
use Rattle.flow_model.proofs.Times.{CameAs, begin_same, answered_begin, own_phase}

module _ (w : World) (slots : ℕ → ℕ) (issued : List Entry → TxnId → ℕ) (h : List Event) (pr : Given w slots issued h) (x : TxnId) where
  abbrev own_of : (o : ℕ) (p : Phase) (e : Event) → IsPhase x o p e → IsOwn x o e
  own_of o p e i = record { phase = p; answer = i.answer; call = i.call }

  same_time : (e f : Event) (s t : ℕ) → e ≡ f → e.time ≡ s → f.time ≡ t → s ≡ t
  same_time e f s t q a b = sym a ∙ (ap (λ (d : Event). d.time) q ∙ b)

  pub one_req : (o s t : ℕ) → ReqIs w (Among h) x o s → ReqIs w (Among h) x o t → s ≡ t
  one_req o s t f g = same_time f.event g.event s t (begin_same w slots issued h pr x o f.event g.event f.known f.is g.known g.is) f.time g.time

  one_past : (o s t : ℕ) → Past w (Among h) x o s → Past w (Among h) x o t → s ≡ t
  one_past o s t f g =
      f.sum ∙ (ap (λ (r : ℕ). later r (w.hop o).latency) (one_req o f.req g.req f.is_req g.is_req) ∙ sym g.sum)

  one_arr : (pass : Passage) (k s t : ℕ) → ArrIs w (Among h) x pass k s → ArrIs w (Among h) x pass k t → s ≡ t
  one_arr pass (suc k) s t f g = one_past (hop_at pass k) s t f g
  one_arr pass zero s t f g =
      let a : IsTakeOf x f.event = record { txn = f.is.txn; slot = f.is.slot; what = f.is.what } in
      let b : IsTakeOf x g.event = record { txn = g.is.txn; slot = g.is.slot; what = g.is.what } in
      let same : f.event ≡ g.event = once_same (IsTakeOf x) (at (Pool x.initiator) h) f.event g.event (λ c d e q i. pr.one_take x.initiator c d e q x i)
      (among_at (Pool x.initiator) h f.event f.known f.is.object) a (among_at (Pool x.initiator) h g.event g.known g.is.object) b in
      same_time f.event g.event s t same f.time g.time

  -- no BEGIN_RESP of x stands before another
  first_response : (o : ℕ) (f g : Event) → IsPhase x o BeginResp f → IsPhase x o BeginResp g → Precedes h f g → ⊥
  first_response o f g i j p = tell (own_phase w slots issued h pr p.place.before p.place.after g p.place.is x o BeginResp j.answer j.call f p.known (own_of o BeginResp f i))
    where
      tell : CameAs BeginResp BeginResp i.answer → ⊥
      tell (inl q) = cc
      tell (inr q) = cc

  response_same : (o : ℕ) (f g : Event) → Among h f → IsPhase x o BeginResp f → Among h g → IsPhase x o BeginResp g → f ≡ g
  response_same o f g m i n j = elim (among_order h f g m n) [
    | inl q ↦ q
    | inr q ↦ elim q [ inl p ↦ absurd (first_response o f g i j p) | inr p ↦ absurd (first_response o g f j i p) ]
  ]

  one_response : (o s t : ℕ) → FindsAt (Among h) (IsPhase x o BeginResp) s → FindsAt (Among h) (IsPhase x o BeginResp) t → s ≡ t
  one_response o s t f g = same_time f.event g.event s t (response_same o f.event g.event f.known f.is g.known g.is) f.time g.time

  -- a BEGIN_REQ that brought the response leaves no BEGIN_RESP
  not_both : (o t : ℕ) → Finds (Among h) (BringsResponse x o) → FindsAt (Among h) (IsPhase x o BeginResp) t → ⊥
  not_both o t f g = answered_begin w slots issued h pr x o f.event f.known f.is g.event g.known (own_of o BeginResp g.event g.is) (inr refl)

  one_up : (o : ℕ) (rest : List ℕ) (s t : ℕ) → UpFrom w (Among h) x o rest s → UpFrom w (Among h) x o rest t → s ≡ t
  one_up o [] s t f g = one_past o s t f g
  one_up o (p ∷ rest) s t (inl f) (inl g) = one_response p s t f g
  one_up o (p ∷ rest) s t (inl f) (inr g) = absurd (not_both p s g.0 f)
  one_up o (p ∷ rest) s t (inr f) (inl g) = absurd (not_both p t f.0 g)
  one_up o (p ∷ rest) s t (inr f) (inr g) = one_up p rest s t f.1 g.1

  pub one_rsp : (o : ℕ) (rest : List ℕ) (s t : ℕ) → RspFrom w (Among h) x o rest s → RspFrom w (Among h) x o rest t → s ≡ t
  one_rsp o rest s t (inl f) (inl g) = one_response o s t f g
  one_rsp o rest s t (inl f) (inr g) = absurd (not_both o s g.0 f)
  one_rsp o rest s t (inr f) (inl g) = absurd (not_both o t f.0 g)
  one_rsp o rest s t (inr f) (inr g) = one_up o rest s t f.1 g.1

  -- no call of x stands after the end of its sequence
  pub after_end : (o : ℕ) (f g : Event) → IsEnder x o f → IsOwn x o g → Precedes h f g → ⊥
  after_end o f g i j p =
      quiet_in (sayings x o p.place.before) (says i.phase i.answer)
      (quiet j.phase (sayings x o p.place.before) (came w slots issued h pr p.place.before p.place.after g p.place.is x o j.phase j.answer j.call).0)
      (said_in x o p.place.before f i.phase i.answer p.known i.call) i.ends

  own_ender : (o : ℕ) (e : Event) → IsEnder x o e → IsOwn x o e
  own_ender o e i = record { phase = i.phase; answer = i.answer; call = i.call }

  ender_same : (o : ℕ) (f g : Event) → Among h f → IsEnder x o f → Among h g → IsEnder x o g → f ≡ g
  ender_same o f g m i n j = elim (among_order h f g m n) [
    | inl q ↦ q
    | inr q ↦ elim q [ inl p ↦ absurd (after_end o f g i (own_ender o g j) p) | inr p ↦ absurd (after_end o g f j (own_ender o f i) p) ]
  ]

  -- a BEGIN_REQ COMPLETED is the only end
  pub only_end : (o t : ℕ) → Finds (Among h) (IsCall x o BeginReq Completed) → FindsAt (Among h) (λ e. IsEnder x o e × (IsPhase x o BeginResp e ⊎ IsPhase x o EndResp e)) t → ⊥
  only_end o t f g =
      let i : IsEnder x o f.event = record { phase = BeginReq; answer = Completed; call = f.is; ends = tt } in
      let same : f.event ≡ g.event = ender_same o f.event g.event f.known i g.known g.is.0 in
      let c : IsCall x o BeginReq Completed g.event = subst (λ (e : Event). IsCall x o BeginReq Completed e) same f.is in
      elim g.is.1 [ inl j ↦ wrong BeginResp (λ q. cc) j.answer (sym c.what ∙ j.call.what) | inr j ↦ wrong EndResp (λ q. cc) j.answer (sym c.what ∙ j.call.what) ]
    where
      phase_same : (p : Phase) (a : TlmSync) → Call BeginReq Completed ≡ Call p a → BeginReq ≡ p
      phase_same p a q = cc

      wrong : (p : Phase) → ¬ (BeginReq ≡ p) → (a : TlmSync) → Call BeginReq Completed ≡ Call p a → ⊥
      wrong p n a q = n (phase_same p a q)

  pub one_end : (pass : Passage) (k s t : ℕ) → EndIs w (Among h) x pass k s → EndIs w (Among h) x pass k t → s ≡ t
  one_end pass k s t (inl f) (inl g) = one_rsp (hop_at pass k) (drop (k + 1) pass.hops) s t f.1 g.1
  one_end pass k s t (inl f) (inr g) = absurd (only_end (hop_at pass k) t f.0 g)
  one_end pass k s t (inr f) (inl g) = absurd (only_end (hop_at pass k) s g.0 f)
  one_end pass k s t (inr f) (inr g) = same_time f.event g.event s t (ender_same (hop_at pass k) f.event g.event f.known f.is.0 g.known g.is.0) f.time g.time

pub numbers : (w : World) (slots : ℕ → ℕ) (issued : List Entry → TxnId → ℕ) (h : List Event) → Given w slots issued h →
    (x : TxnId) (pass : Passage) → w.passage x ≡ Some pass → (k : ℕ) → IsOneNumber w h x pass k
numbers w slots issued h pr x pass is k = record {
  req = one_req w slots issued h pr x (hop_at pass k);
  arr = one_arr w slots issued h pr x pass k;
  up = one_up w slots issued h pr x (hop_at pass k) (drop (k + 1) pass.hops);
  rsp = one_rsp w slots issued h pr x (hop_at pass k) (drop (k + 1) pass.hops);
  end = one_end w slots issued h pr x pass k;
}

pub counts : (w : World) (slots : ℕ → ℕ) (issued : List Entry → TxnId → ℕ) (h : List Event) → Given w slots issued h →
    AtSplits (λ before e. (x : TxnId) (n : ℕ) → IsAcquire x n e → n ≡ acquires x (at (Pool x.initiator) before)) h
counts w slots issued h pr before e after q x n c =
    number_counted (slots x.initiator) (at (Pool x.initiator) h) (pr.pools x.initiator) (pr.one_take x.initiator)
    (at (Pool x.initiator) before) (at (Pool x.initiator) after) e (at-split (Pool x.initiator) h before after e q c.object) x n
    (record { txn = c.txn; number = c.number; slot = c.slot; what = c.what })
