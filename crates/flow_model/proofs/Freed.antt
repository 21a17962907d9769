-- No call and no Access of a transaction stands after its freed Release.
use Rattle.std.proofs.Common.{◌≡◌, ℕ, ◌<◌, List, [], ◌∷◌, ◌++◌, Some, true, false, Bool, cond, nat_eq, refl, ap, sym, ◌∙◌, arith, subst, ◌⊎◌, inl, inr}
use Rattle.std.proofs.lemmas.Bool.{eqb-true}
use Rattle.tlm_types.specs.declared.words.ObjectNo.{ObjectNo}
use Rattle.tlm_types.specs.declared.words.ObjectNo.TheVariants.{Pool}
use Rattle.tlm_types.specs.declared.words.Phase.{Phase}
use Rattle.tlm_types.specs.declared.words.Phase.TheVariants.{BeginReq, EndReq, BeginResp, EndResp}
use Rattle.tlm_types.specs.declared.words.TlmSync.{TlmSync}
use Rattle.tlm_types.specs.declared.entry.Entry.{Entry}
use Rattle.tlm_types.specs.declared.words.TxnId.{TxnId}
use Rattle.tlm_types.specs.declared.entry.What.TheVariants.{Acquire, Release}
use Rattle.flow_model.specs.Events.{IsReleased, Event, Among, Finds, IsCall, IsOwn, IsAcquire, IsRelease, IsAccess, at}
use Rattle.flow_model.specs.Numbers.{IsEnding, IsEnder, released_hop}
use Rattle.flow_model.specs.Points.{IsFreed, IsFreedLast}
use Rattle.flow_model.specs.World.{World, Passage, hop_count, hop_at}
use Rattle.flow_model.proofs.Each.{each_from}
use Rattle.flow_model.proofs.Forms.{Saying, says, sayings, Given}
use Rattle.flow_model.proofs.Lives.{AcquireOf, ReleaseOf, FreedOf, none_after_freed, all_released, number_few, number_released}
use Rattle.flow_model.proofs.Nodes.{OneOf, before_call}
use Rattle.flow_model.proofs.Once.{among_order, Precedes}
use Rattle.flow_model.proofs.Reading.{BackedRelease, backed_call, backed_release}
use Rattle.flow_model.proofs.Sayings.{In, in_said, said_in}
use Rattle.flow_model.proofs.Splits.{Split, among_split, among_left, among_at, among_self, earlier, placed, from_at, at-split}
use Rattle.flow_model.proofs.Steps.{came, backed_at}

some_same : {X : Type 0} (a b : X) → Some a ≡ Some b → a ≡ b
some_same a b q = cc

-- none of these says ends a sequence
abbrev pub Quiet : List Saying → Type 0
Quiet [] = Unit {0}
Quiet (s ∷ l) = (¬ IsEnding s.phase s.answer) × Quiet l

pub quiet_in : (l : List Saying) (s : Saying) → Quiet l → In l s → ¬ IsEnding s.phase s.answer
quiet_in [] s q i = absurd i
quiet_in (c ∷ l) s q (inl r) = subst (λ (d : Saying). ¬ IsEnding d.phase d.answer) r q.0
quiet_in (c ∷ l) s q (inr i) = quiet_in l s q.1 i

quiet_at : (cs l : List Saying) → cs ≡ l → Quiet l → Quiet cs
quiet_at cs l q h = subst Quiet (sym q) h

-- before a call no sequence has ended
pub quiet : (p : Phase) (cs : List Saying) → OneOf (before_call p) cs → Quiet cs
quiet BeginReq cs (inl m) = quiet_at cs _ m tt
quiet BeginReq cs (inr m) = absurd m
quiet EndReq cs (inl m) = quiet_at cs _ m (λ z. z, tt)
quiet EndReq cs (inr m) = absurd m
quiet BeginResp cs (inl m) = quiet_at cs _ m (λ z. z, tt)
quiet BeginResp cs (inr (inl m)) = quiet_at cs _ m (λ z. z, tt)
quiet BeginResp cs (inr (inr (inl m))) = quiet_at cs _ m (λ z. z, (λ z. z, tt))
quiet BeginResp cs (inr (inr (inr m))) = absurd m
quiet EndResp cs (inl m) = quiet_at cs _ m (λ z. z, tt)
quiet EndResp cs (inr (inl m)) = quiet_at cs _ m (λ z. z, (λ z. z, tt))
quiet EndResp cs (inr (inr (inl m))) = quiet_at cs _ m (λ z. z, (λ z. z, (λ z. z, tt)))
quiet EndResp cs (inr (inr (inr (inl m)))) = quiet_at cs _ m (λ z. z, (λ z. z, tt))
quiet EndResp cs (inr (inr (inr (inr m)))) = absurd m

-- before a call other than BEGIN_REQ there is a BEGIN_REQ
pub record Begun (cs : List Saying) : Type 0 where
  pub answer : TlmSync
  pub said : In cs (says BeginReq answer)

begun_at : (cs l : List Saying) (a : TlmSync) → cs ≡ says BeginReq a ∷ l → Begun cs
begun_at cs l a q = record { answer = a; said = subst (λ (k : List Saying). In k (says BeginReq a)) (sym q) (inl refl) }

pub begun : (p : Phase) (cs : List Saying) → OneOf (before_call p) cs → (p ≡ BeginReq) ⊎ Begun cs
begun BeginReq cs m = inl refl
begun EndReq cs (inl m) = inr (begun_at cs _ _ m)
begun EndReq cs (inr m) = absurd m
begun BeginResp cs (inl m) = inr (begun_at cs _ _ m)
begun BeginResp cs (inr (inl m)) = inr (begun_at cs _ _ m)
begun BeginResp cs (inr (inr (inl m))) = inr (begun_at cs _ _ m)
begun BeginResp cs (inr (inr (inr m))) = absurd m
begun EndResp cs (inl m) = inr (begun_at cs _ _ m)
begun EndResp cs (inr (inl m)) = inr (begun_at cs _ _ m)
begun EndResp cs (inr (inr (inl m))) = inr (begun_at cs _ _ m)
begun EndResp cs (inr (inr (inr (inl m)))) = inr (begun_at cs _ _ m)
begun EndResp cs (inr (inr (inr (inr m)))) = absurd m

released_below : (k : ℕ) → k < 15 → released_hop k ≡ k
released_below k l = go (nat_eq k 15) refl
  where
    go : (b : Bool) → nat_eq k 15 ≡ b → cond b 0 k ≡ k
    go true q = let r : k ≡ 15 = eqb-true k 15 q in absurd (omega arith)
    go false q = refl

module _ (w : World) (slots : ℕ → ℕ) (issued : List Entry → TxnId → ℕ) (h : List Event) (pr : Given w slots issued h) where
  -- the number of an Acquire is below 15
  pub acquire_few : (x : TxnId) (k : ℕ) → Finds (Among h) (IsAcquire x k) → k < 15
  acquire_few x k f =
      let s = among_split h f.event f.known in
      number_few (slots x.initiator) (at (Pool x.initiator) h) (pr.pools x.initiator) (pr.one_take x.initiator)
      (at (Pool x.initiator) s.before) (at (Pool x.initiator) s.after) f.event (at-split (Pool x.initiator) h s.before s.after f.event s.is f.is.object)
      x k (record { txn = f.is.txn; number = f.is.number; slot = f.is.slot; what = f.is.what })

  module _ (before rest : List Event) (q : h ≡ before ++ rest) where
    -- what stands before an earlier entry stands before this one
    pub back_to : (s : Event) (place : Split before s) (f : Event) → Among place.before f → Among before f
    back_to s place f m = subst (λ (l : List Event). Among l f) (sym place.is) (among_left place.before (s ∷ place.after) f m)

    -- a Release numbered k comes after the end on hop k
    pub ended : (x : TxnId) (pass : Passage) → w.passage x ≡ Some pass → (k : ℕ) → k < 15 → (r : Event) → (place : Split before r) → (freed : Bool) → IsRelease x k freed r → Finds (Among before) (IsEnder x (hop_at pass k))
    ended x pass is k small r place freed c =
        let b = backed_release w (Among place.before) x k freed r (pr.backed place.before r (place.after ++ rest) (placed h before rest r q place)) c in
        let same : b.passage ≡ pass = some_same b.passage pass (sym b.is ∙ is) in
        let g = b.release.ended in
        let j : hop_at b.passage (released_hop k) ≡ hop_at pass k = ap (λ (f : Passage). hop_at f (released_hop k)) same ∙ ap (hop_at pass) (released_below k small) in
        record { event = g.event; known = back_to r place g.event g.known; is = subst (λ (o : ℕ). IsEnder x o g.event) j g.is }

    -- where the freed Release of x stands before, each Acquire of x is released before
    pub released_before : (x : TxnId) (k : ℕ) → Finds (Among before) (IsAcquire x k) → Finds (Among before) (IsFreed x) → Finds (Among before) (IsReleased x k)
    released_before x k g f = go (among_order before g.event f.event g.known f.known)
      where
        pool : ObjectNo
        pool = Pool x.initiator

        acquire : AcquireOf x k g.event
        acquire = record { txn = g.is.txn; number = g.is.number; slot = g.is.slot; what = g.is.what }

        freed : FreedOf x f.event
        freed = record { txn = f.is.release.txn; slot = f.is.release.slot; what = f.is.release.what }

        go : (g.event ≡ f.event) ⊎ (Precedes before g.event f.event ⊎ Precedes before f.event g.event) → Finds (Among before) (IsReleased x k)
        go (inl s) = absurd (clash g.is.slot f.is.release.slot (sym g.is.what ∙ (ap (λ (d : Event). d.what) s ∙ f.is.release.what)))
          where
            clash : (i j : ℕ) → Acquire i ≡ Release j true → ⊥
            clash i j z = cc
        go (inr (inr s)) =
            let l = s.place.before in
            absurd (none_after_freed (slots x.initiator) (at (Pool x.initiator) h) (pr.pools x.initiator) (pr.one_take x.initiator)
            (at (Pool x.initiator) l) (at (Pool x.initiator) (s.place.after ++ rest)) g.event
            (at-split (Pool x.initiator) h l (s.place.after ++ rest) g.event (placed h before rest g.event q s.place) g.is.object)
            x k acquire (record { event = f.event; known = among_at (Pool x.initiator) l f.event s.known f.is.release.object; is = freed }))
        go (inr (inl s)) =
            let l = s.place.before in
            told (all_released (slots x.initiator) (at (Pool x.initiator) h) (pr.pools x.initiator) (pr.one_take x.initiator)
            (at (Pool x.initiator) l) (at (Pool x.initiator) (s.place.after ++ rest)) f.event
            (at-split (Pool x.initiator) h l (s.place.after ++ rest) f.event (placed h before rest f.event q s.place) f.is.release.object)
            x freed g.event (among_at (Pool x.initiator) l g.event s.known g.is.object) k acquire)
          where
            told : (f.event.number ≡ k) ⊎ Finds (Among (at (Pool x.initiator) s.place.before)) (ReleaseOf x k) → Finds (Among before) (IsReleased x k)
            told (inl t) = record { event = f.event; known = f.known; is = record { freed = true; release = record { object = f.is.release.object; txn = f.is.release.txn; number = t; slot = f.is.release.slot; what = f.is.release.what } } }
            told (inr r) =
                let m = from_at (Pool x.initiator) s.place.before r.event r.known in
                record { event = r.event; known = back_to f.event s.place r.event m.among; is = record { freed = r.is.freed; release = record { object = m.mine; txn = r.is.txn; number = r.is.number; slot = r.is.slot; what = r.is.what } } }

    -- and so is the reference of its initiator
    pub own_released : (x : TxnId) (k : ℕ) → k ≡ 15 → Finds (Among before) (IsFreed x) → Finds (Among before) (IsReleased x k)
    own_released x k fifteen f = told (number_released (slots x.initiator) (at (Pool x.initiator) h) (pr.pools x.initiator) (pr.one_take x.initiator)
        (at (Pool x.initiator) s.before) (at (Pool x.initiator) (s.after ++ rest)) f.event
        (at-split (Pool x.initiator) h s.before (s.after ++ rest) f.event (placed h before rest f.event q s) f.is.release.object)
        x freed k (inr fifteen))
      where
        s : Split before f.event
        s = among_split before f.event f.known

        freed : FreedOf x f.event
        freed = record { txn = f.is.release.txn; slot = f.is.release.slot; what = f.is.release.what }

        told : (f.event.number ≡ k) ⊎ Finds (Among (at (Pool x.initiator) s.before)) (ReleaseOf x k) → Finds (Among before) (IsReleased x k)
        told (inl t) = record { event = f.event; known = f.known; is = record { freed = true; release = record { object = f.is.release.object; txn = f.is.release.txn; number = t; slot = f.is.release.slot; what = f.is.release.what } } }
        told (inr r) =
            let m = from_at (Pool x.initiator) s.before r.event r.known in
            record { event = r.event; known = back_to f.event s r.event m.among; is = record { freed = r.is.freed; release = record { object = m.mine; txn = r.is.txn; number = r.is.number; slot = r.is.slot; what = r.is.what } } }

    -- and so the sequence of x on each hop that it acquired has ended before
    pub ended_before : (x : TxnId) (pass : Passage) → w.passage x ≡ Some pass → (k : ℕ) → Finds (Among before) (IsAcquire x k) → Finds (Among before) (IsFreed x) → Finds (Among before) (IsEnder x (hop_at pass k))
    ended_before x pass is k g f =
        let r = released_before x k g f in
        let few : k < 15 = acquire_few x k (record { event = g.event; known = subst (λ (l : List Event). Among l g.event) (sym q) (among_left before rest g.event g.known); is = g.is }) in
        ended x pass is k few r.event (among_split before r.event r.known) r.is.freed r.is.release

  module _ (before after : List Event) (e : Event) (q : h ≡ before ++ e ∷ after) where
    -- a call of x has its Acquire before it
    pub acquired : (x : TxnId) (pass : Passage) → w.passage x ≡ Some pass → (k : ℕ) → k < hop_count pass → (p : Phase) (a : TlmSync) → IsCall x (hop_at pass k) p a e → Finds (Among before) (IsAcquire x k)
    acquired x pass is k below p a c = go (begun p (sayings x (hop_at pass k) before) (came w slots issued h pr before after e q x (hop_at pass k) p a c).0)
      where
        go : (p ≡ BeginReq) ⊎ Begun (sayings x (hop_at pass k) before) → Finds (Among before) (IsAcquire x k)
        go (inl r) = (backed_at w slots issued h pr before after e q x (hop_at pass k) BeginReq a (subst (λ (d : Phase). IsCall x (hop_at pass k) d a e) r c) pass is k below refl).order.acquired
        go (inr r) =
            let g = in_said x (hop_at pass k) before BeginReq r.answer r.said in
            let s = among_split before g.event g.known in
            let f = (backed_at w slots issued h pr s.before (s.after ++ e ∷ after) g.event (earlier h before after e g.event q s) x (hop_at pass k) BeginReq r.answer g.is pass is k below refl).order.acquired in
            record { event = f.event; known = back_to before (e ∷ after) q g.event s f.event f.known; is = f.is }

    no_call : (x : TxnId) (o : ℕ) → IsOwn x o e → ¬ Finds (Among before) (IsFreed x)
    no_call x o i f =
        let b = backed_call w (Among before) x o i.phase i.answer e (pr.backed before e after q) i.call in
        let pass = b.passage in
        let k = b.call.hop in
        let c : IsCall x (hop_at pass k) i.phase i.answer e = subst (λ (n : ℕ). IsCall x n i.phase i.answer e) (sym b.call.place) i.call in
        let d = ended_before before (e ∷ after) q x pass b.is k (acquired x pass b.is k b.call.below i.phase i.answer c) f in
        quiet_in (sayings x (hop_at pass k) before) (says d.is.phase d.is.answer)
        (quiet i.phase (sayings x (hop_at pass k) before) (came w slots issued h pr before after e q x (hop_at pass k) i.phase i.answer c).0)
        (said_in x (hop_at pass k) before d.event d.is.phase d.is.answer d.known d.is.call) d.is.ends

    no_access : (x : TxnId) → IsAccess x e → ¬ Finds (Among before) (IsFreed x)
    no_access x c f = go b.passage.routed refl
      where
        place : Split before f.event
        place = among_split before f.event f.known

        b : BackedRelease w (Among place.before) x f.is.number f.event.time
        b = backed_release w (Among place.before) x f.is.number true f.event (pr.backed place.before f.event (place.after ++ e ∷ after) (earlier h before after e f.event q place)) f.is.release

        go : (r : Bool) → b.passage.routed ≡ r → ⊥
        go true r =
            let g = b.release.served r in
            pr.one_access before e after q x c (record { event = g.event; known = back_to before (e ∷ after) q f.event place g.event g.known; is = g.is })
        go false r = pr.unrouted x b.passage b.is r e (among_self h before after e q) c

  pub freed_last : IsFreedLast h
  freed_last = each_from _ h (λ before e after q x i f. elim i.is [ inl c ↦ no_call before after e q x c.0 c.1 f | inr c ↦ no_access before after e q x c f ])
