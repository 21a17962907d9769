-- The lives of a pool's slots: what a live slot says of the entries so far.
use Rattle.std.proofs.Common.{◌≡◌, ℕ, ◌+◌, ◌<◌, ◌≤◌, List, [], ◌∷◌, ◌++◌, length, Option, Some, None, true, false, Bool, cond, nat_eq, eq-eqb, refl, ap, sym, ◌∙◌, arith, subst, ◌⊎◌, inl, inr, append_assoc}
use Rattle.std.proofs.lemmas.Bool.{eqb-true}
use Rattle.tlm_types.specs.declared.words.TxnId.{TxnId}
use Rattle.tlm_types.specs.declared.entry.What.{What}
use Rattle.tlm_types.specs.declared.entry.What.TheVariants.{Access as Accessed, Granted, Invalidated, Closed, Call, Take, Acquire, Release}
use Rattle.flow_model.specs.Events.{Event, Among, Finds, IsTakeOf}
use Rattle.flow_model.specs.Pools.{Life, Slots, more, fewer, slots_by, slots_after, PoolStepBy, AcquireStep, ReleaseStep, IsLive}
use Rattle.flow_model.specs.Slots.{put, no_slots}
use Rattle.flow_model.proofs.Forms.{TakesOnce, is_txn, acquires, acquire_by, PoolSteps}
use Rattle.flow_model.proofs.Numbers.{Distinct, all_held}
use Rattle.flow_model.proofs.Once.{once_same}
use Rattle.flow_model.proofs.Sayings.{same_txn, is_txn_self}
use Rattle.flow_model.proofs.Splits.{among_left, among_right, among_cases}

-- entries of a pool, by transaction and slot
pub record TakenAt (x : TxnId) (k : ℕ) (e : Event) : Type 0 where
  pub txn : e.txn ≡ x
  pub what : e.what ≡ Take k

pub record AcquireOf (x : TxnId) (n : ℕ) (e : Event) : Type 0 where
  pub txn : e.txn ≡ x
  pub number : e.number ≡ n
  pub slot : ℕ
  pub what : e.what ≡ Acquire slot

pub record ReleaseOf (x : TxnId) (n : ℕ) (e : Event) : Type 0 where
  pub txn : e.txn ≡ x
  pub number : e.number ≡ n
  pub slot : ℕ
  pub freed : Bool
  pub what : e.what ≡ Release slot freed

pub record FreedOf (x : TxnId) (e : Event) : Type 0 where
  pub txn : e.txn ≡ x
  pub slot : ℕ
  pub what : e.what ≡ Release slot true

-- what a live slot k with this life says of the entries so far
pub record LifeFacts (l : List Event) (k : ℕ) (life : Life) : Type 0 where
  pub taken : Finds (Among l) (TakenAt life.txn k)
  pub acquired : (e : Event) → Among l e → (n : ℕ) → AcquireOf life.txn n e → n < life.acquired
  pub all_acquired : (n : ℕ) → n < life.acquired → Finds (Among l) (AcquireOf life.txn n)
  pub released : (n : ℕ) → Among life.released n → Finds (Among l) (ReleaseOf life.txn n)
  pub all_released : (f : Event) → Among l f → (n : ℕ) → ReleaseOf life.txn n f → Among life.released n
  pub counted : acquires life.txn l ≡ life.acquired
  pub few : life.acquired ≤ 15
  pub distinct : Distinct life.released
  pub numbers : (n : ℕ) → Among life.released n → (n < life.acquired) ⊎ (n ≡ 15)
  pub not_freed : ¬ Finds (Among l) (FreedOf life.txn)

pub record Inv (l : List Event) : Type 0 where
  pub lives : (k : ℕ) (life : Life) → slots_after no_slots l k ≡ Some life → LifeFacts l k life
  pub has_take : (e : Event) → Among l e → Finds (Among l) (IsTakeOf e.txn)

abbrev first_life : TxnId → Life
first_life x = record { txn = x; acquired = 0; released = [] }

inv_nil : Inv []
inv_nil = record { lives = λ k life q. cc; has_take = λ e m. absurd m }

-- the slots after one more entry
slots_push : (s : Slots) (l : List Event) (e : Event) → slots_after s (l ++ e ∷ []) ≡ slots_by (slots_after s l) e.txn e.number e.what
slots_push s [] e = refl
slots_push s (x ∷ l) e = slots_push (slots_by s x.txn x.number x.what) l e

some_same : {X : Type 0} (a b : X) → Some a ≡ Some b → a ≡ b
some_same a b q = cc

pub data PutCase (s : Slots) (k : ℕ) (o : Option Life) (j : ℕ) (life : Life) : Type 0 where
  here : j ≡ k → o ≡ Some life → PutCase s k o j life
  there : ¬ (j ≡ k) → s j ≡ Some life → PutCase s k o j life

put_case : (s : Slots) (k : ℕ) (o : Option Life) (j : ℕ) (life : Life) → put s k o j ≡ Some life → PutCase s k o j life
put_case s k o j life q = go (nat_eq j k) refl q
  where
    go : (b : Bool) → nat_eq j k ≡ b → cond b o (s j) ≡ Some life → PutCase s k o j life
    go true r q = here (eqb-true j k r) q
    go false r q = there (λ m. cc (eq-eqb j k m)) q

acquires_push : (x : TxnId) (l : List Event) (e : Event) → acquires x (l ++ e ∷ []) ≡ acquires x l + acquire_by (is_txn x e.txn) e.what
acquires_push x [] e = omega arith
acquires_push x (f ∷ l) e = let r : acquires x (l ++ e ∷ []) ≡ acquires x l + acquire_by (is_txn x e.txn) e.what = acquires_push x l e in omega arith

-- an entry that is no Acquire of x leaves their number
not_counted : (x : TxnId) (e : Event) → ((k : ℕ) → e.txn ≡ x → ¬ (e.what ≡ Acquire k)) → acquire_by (is_txn x e.txn) e.what ≡ 0
not_counted x e never = go (is_txn x e.txn) refl e.what refl
  where
    go : (b : Bool) → is_txn x e.txn ≡ b → (v : What) → e.what ≡ v → acquire_by b v ≡ 0
    go true q (Acquire k) r = absurd (never k (same_txn x e.txn q) r)
    go true q (Accessed way access status got) r = refl
    go true q (Granted g f l k) r = refl
    go true q (Invalidated f l) r = refl
    go true q (Closed g) r = refl
    go true q (Call p a) r = refl
    go true q (Take k) r = refl
    go true q (Release k f) r = refl
    go false q v r = refl

one_counted : (x : TxnId) (e : Event) (k : ℕ) → e.txn ≡ x → e.what ≡ Acquire k → acquire_by (is_txn x e.txn) e.what ≡ 1
one_counted x e k t v =
    ap (λ (d : What). acquire_by (is_txn x e.txn) d) v ∙ ap (λ (b : Bool). acquire_by b (Acquire k)) (subst (λ (y : TxnId). is_txn x y ≡ true) (sym t) (is_txn_self x))

none_counted : (x : TxnId) (l : List Event) → ((f : Event) → Among l f → (k : ℕ) → f.txn ≡ x → ¬ (f.what ≡ Acquire k)) → acquires x l ≡ 0
none_counted x [] never = refl
none_counted x (e ∷ l) never =
    let a : acquire_by (is_txn x e.txn) e.what ≡ 0 = not_counted x e (never e (inl refl)) in
    let b : acquires x l ≡ 0 = none_counted x l (λ f m. never f (inr m)) in
    omega arith

module _ (l : List Event) (e : Event) where
  still_counted : (x : TxnId) (n : ℕ) → acquires x l ≡ n → ((k : ℕ) → e.txn ≡ x → ¬ (e.what ≡ Acquire k)) → acquires x (l ++ e ∷ []) ≡ n
  still_counted x n q never =
      let a : acquires x (l ++ e ∷ []) ≡ acquires x l + acquire_by (is_txn x e.txn) e.what = acquires_push x l e in
      let b : acquire_by (is_txn x e.txn) e.what ≡ 0 = not_counted x e never in
      omega arith

  moved : (P : Event → Type 0) → Finds (Among l) P → Finds (Among (l ++ e ∷ [])) P
  moved P f = record { event = f.event; known = among_left l (e ∷ []) f.event f.known; is = f.is }

  new : (P : Event → Type 0) → P e → Finds (Among (l ++ e ∷ [])) P
  new P p = record { event = e; known = among_right l (e ∷ []) e (inl refl); is = p }

  -- an entry of the longer list is one of the shorter, or the new one
  old_or_new : (f : Event) → Among (l ++ e ∷ []) f → Among l f ⊎ (e ≡ f)
  old_or_new f m = elim (among_cases l (e ∷ []) f m) [ inl i ↦ inl i | inr i ↦ elim i [ inl q ↦ inr q | inr z ↦ absurd z ] ]

  -- none of the longer list, where none of the shorter and not the new one
  still_none : (P : Event → Type 0) → ¬ Finds (Among l) P → ¬ P e → ¬ Finds (Among (l ++ e ∷ [])) P
  still_none P n d f = elim (old_or_new f.event f.known) [
    | inl i ↦ n (record { event = f.event; known = i; is = f.is })
    | inr q ↦ d (subst P (sym q) f.is)
  ]

  still_below : (life : Life) → ((f : Event) → Among l f → (n : ℕ) → AcquireOf life.txn n f → n < life.acquired) → ((n : ℕ) → AcquireOf life.txn n e → n < life.acquired)
      → (f : Event) → Among (l ++ e ∷ []) f → (n : ℕ) → AcquireOf life.txn n f → n < life.acquired
  still_below life old now f m n a = elim (old_or_new f m) [
    | inl i ↦ old f i n a
    | inr q ↦ now n (subst (λ (g : Event). AcquireOf life.txn n g) (sym q) a)
  ]

  -- a life that the new entry leaves alone
  kept : (k : ℕ) (life : Life) → LifeFacts l k life → ((n : ℕ) → ¬ AcquireOf life.txn n e) → ((n : ℕ) → ¬ ReleaseOf life.txn n e) → ¬ FreedOf life.txn e → LifeFacts (l ++ e ∷ []) k life
  kept k life f acquire release freed = record {
    all_released = λ g m n d. elim (old_or_new g m) [ inl i ↦ f.all_released g i n d | inr q ↦ absurd (release n (subst (λ (h : Event). ReleaseOf life.txn n h) (sym q) d)) ];
    counted = still_counted life.txn life.acquired f.counted (λ i t v. acquire e.number (record { txn = t; number = refl; slot = i; what = v }));
    taken = moved _ f.taken;
    acquired = still_below life f.acquired (λ n c. absurd (acquire n c));
    all_acquired = λ n r. moved _ (f.all_acquired n r);
    released = λ n i. moved _ (f.released n i);
    few = f.few;
    distinct = f.distinct;
    numbers = f.numbers;
    not_freed = still_none _ f.not_freed freed;
  }

module _ (slots : ℕ) (log : List Event) (steps : PoolSteps slots log) (once : TakesOnce log) where
  module _ (l a : List Event) (e : Event) (q : log ≡ l ++ e ∷ a) (inv : Inv l) where
    in_log : (f : Event) → Among l f → Among log f
    in_log f m = subst (λ (r : List Event). Among r f) (sym q) (among_left l (e ∷ a) f m)

    -- two live slots of one transaction are one
    one_slot : (j k : ℕ) (x : TxnId) → Finds (Among l) (TakenAt x j) → Finds (Among l) (TakenAt x k) → j ≡ k
    one_slot j k x f g =
        let p : IsTakeOf x f.event = record { txn = f.is.txn; slot = j; what = f.is.what } in
        let r : IsTakeOf x g.event = record { txn = g.is.txn; slot = k; what = g.is.what } in
        let same : f.event ≡ g.event = once_same (IsTakeOf x) log f.event g.event (λ b d c s i. once b d c s x i) (in_log f.event f.known) p (in_log g.event g.known) r in
        slot_of j k (sym f.is.what ∙ (ap (λ (d : Event). d.what) same ∙ g.is.what))
      where
        slot_of : (j k : ℕ) → Take j ≡ Take k → j ≡ k
        slot_of j k r = cc

    -- after a Take
    after_take : (k : ℕ) → e.what ≡ Take k → Inv (l ++ e ∷ [])
    after_take k v = record {
      lives = λ j life r. fact j life (put_case (slots_after no_slots l) k (Some (first_life e.txn)) j life (sym (at_slot j) ∙ r));
      has_take = λ f m. elim (old_or_new l e f m) [
        | inl i ↦ moved l e _ (inv.has_take f i)
        | inr s ↦ new l e _ (record { txn = ap (λ (g : Event). g.txn) s; slot = k; what = v })
      ];
    }
      where
        at_slot : (j : ℕ) → slots_after no_slots (l ++ e ∷ []) j ≡ put (slots_after no_slots l) k (Some (first_life e.txn)) j
        at_slot j = ap (λ (s : Slots). s j) (slots_push no_slots l e) ∙ ap (λ (w : What). slots_by (slots_after no_slots l) e.txn e.number w j) v

        fresh : (f : Event) → Among l f → f.txn ≡ e.txn → ⊥
        fresh f m t =
            let g = inv.has_take f m in
            once l e a q e.txn (record { txn = refl; slot = k; what = v }) (record { event = g.event; known = g.known; is = subst (λ (x : TxnId). IsTakeOf x g.event) t g.is })

        no_acquire : (x : TxnId) (n : ℕ) → AcquireOf x n e → ⊥
        no_acquire x n d = clash d.slot (sym v ∙ d.what)
          where
            clash : (s : ℕ) → Take k ≡ Acquire s → ⊥
            clash s r = cc

        no_freed : (x : TxnId) → FreedOf x e → ⊥
        no_freed x d = clash d.slot (sym v ∙ d.what)
          where
            clash : (s : ℕ) → Take k ≡ Release s true → ⊥
            clash s r = cc

        no_release : (x : TxnId) (n : ℕ) → ReleaseOf x n e → ⊥
        no_release x n d = clash d.slot d.freed (sym v ∙ d.what)
          where
            clash : (s : ℕ) (freed : Bool) → Take k ≡ Release s freed → ⊥
            clash s freed r = cc

        made : LifeFacts (l ++ e ∷ []) k (first_life e.txn)
        made = record {
          taken = new l e _ (record { txn = refl; what = v });
          acquired = still_below l e (first_life e.txn) (λ f m n d. absurd (fresh f m d.txn)) (λ n d. absurd (no_acquire e.txn n d));
          all_acquired = λ n r. absurd (omega arith);
          counted = still_counted l e e.txn 0 (none_counted e.txn l (λ f m i t w. fresh f m t)) (λ i t w. no_acquire e.txn e.number (record { txn = t; number = refl; slot = i; what = w }));
          released = λ n i. absurd i;
          all_released = λ f m n d. elim (old_or_new l e f m) [ inl i ↦ absurd (fresh f i d.txn) | inr s ↦ absurd (no_release e.txn n (subst (λ (h : Event). ReleaseOf e.txn n h) (sym s) d)) ];
          few = omega arith;
          distinct = tt;
          numbers = λ n i. absurd i;
          not_freed = still_none l e _ (λ f. fresh f.event f.known f.is.txn) (no_freed e.txn);
        }

        fact : (j : ℕ) (life : Life) → PutCase (slots_after no_slots l) k (Some (first_life e.txn)) j life → LifeFacts (l ++ e ∷ []) j life
        fact j life (here r s) = subst (λ (i : ℕ). LifeFacts (l ++ e ∷ []) i life) (sym r) (subst (λ (d : Life). LifeFacts (l ++ e ∷ []) k d) (some_same (first_life e.txn) life s) made)
        fact j life (there d s) = kept l e j life (inv.lives j life s) (λ n c. no_acquire life.txn n c) (λ n c. no_release life.txn n c) (no_freed life.txn)

    -- another live slot is of another transaction
    other : (k : ℕ) → IsLive (slots_after no_slots l) k e.txn → (j : ℕ) (life : Life) → ¬ (j ≡ k) → slots_after no_slots l j ≡ Some life → e.txn ≡ life.txn → ⊥
    other k live j life d s t =
        let f : Finds (Among l) (TakenAt e.txn j) = subst (λ (x : TxnId). Finds (Among l) (TakenAt x j)) (sym t) (inv.lives j life s).taken in
        let g : Finds (Among l) (TakenAt e.txn k) = subst (λ (x : TxnId). Finds (Among l) (TakenAt x k)) live.txn (inv.lives k live.life live.is).taken in
        d (one_slot j k e.txn f g)

    -- an Acquire or a Release has the Take of its life
    take_of_life : (k : ℕ) → IsLive (slots_after no_slots l) k e.txn → (f : Event) → Among (l ++ e ∷ []) f → Finds (Among (l ++ e ∷ [])) (IsTakeOf f.txn)
    take_of_life k live f m = elim (old_or_new l e f m) [
      | inl i ↦ moved l e _ (inv.has_take f i)
      | inr s ↦ (
          let g = (inv.lives k live.life live.is).taken in
          moved l e _ (record { event = g.event; known = g.known; is = record { txn = g.is.txn ∙ (live.txn ∙ ap (λ (d : Event). d.txn) s); slot = k; what = g.is.what } }))
    ]

    slots_at : (v : What) → e.what ≡ v → (j : ℕ) → slots_after no_slots (l ++ e ∷ []) j ≡ slots_by (slots_after no_slots l) e.txn e.number v j
    slots_at v r j = ap (λ (s : Slots). s j) (slots_push no_slots l e) ∙ ap (λ (w : What). slots_by (slots_after no_slots l) e.txn e.number w j) r

    -- after an Acquire
    after_acquire : (k : ℕ) → e.what ≡ Acquire k → AcquireStep (slots_after no_slots l) k e.txn e.number → Inv (l ++ e ∷ [])
    after_acquire k v step = record {
      lives = λ j life r. fact j life (put_case (slots_after no_slots l) k (more (slots_after no_slots l k)) j life (sym (slots_at (Acquire k) v j) ∙ r));
      has_take = take_of_life k step.live;
    }
      where
        no_freed : (x : TxnId) → FreedOf x e → ⊥
        no_freed x d = clash d.slot (sym v ∙ d.what)
          where
            clash : (s : ℕ) → Acquire k ≡ Release s true → ⊥
            clash s r = cc

        no_release : (x : TxnId) (n : ℕ) → ReleaseOf x n e → ⊥
        no_release x n d = clash d.slot d.freed (sym v ∙ d.what)
          where
            clash : (s : ℕ) (freed : Bool) → Acquire k ≡ Release s freed → ⊥
            clash s freed r = cc

        grown : Life
        grown = record { txn = step.live.life.txn; acquired = step.live.life.acquired + 1; released = step.live.life.released }

        le_cases : (n m : ℕ) → n < m + 1 → (n < m) ⊎ (n ≡ m)
        le_cases n m r = grind arith

        step_acquired : (n : ℕ) → n < step.live.life.acquired + 1 → (n < step.live.life.acquired) ⊎ (n ≡ step.live.life.acquired) → Finds (Among (l ++ e ∷ [])) (AcquireOf step.live.life.txn n)
        step_acquired n r (inl s) = moved l e _ ((inv.lives k step.live.life step.live.is).all_acquired n s)
        step_acquired n r (inr s) = new l e _ (record { txn = sym step.live.txn; number = step.number ∙ sym s; slot = k; what = v })

        made : LifeFacts (l ++ e ∷ []) k (record { txn = step.live.life.txn; acquired = step.live.life.acquired + 1; released = step.live.life.released })
        made =
            let f = inv.lives k step.live.life step.live.is in
            record {
              taken = moved l e _ f.taken;
              acquired = still_below l e (record { txn = step.live.life.txn; acquired = step.live.life.acquired + 1; released = step.live.life.released })
                  (λ g m n d. let r : n < step.live.life.acquired = f.acquired g m n d in omega arith)
                  (λ n d. let r : e.number ≡ n = d.number in let t : e.number ≡ step.live.life.acquired = step.number in omega arith);
              released = λ n i. moved l e _ (f.released n i);
              all_released = λ g m n d. elim (old_or_new l e g m) [ inl i ↦ f.all_released g i n d | inr s ↦ absurd (no_release step.live.life.txn n (subst (λ (h : Event). ReleaseOf step.live.life.txn n h) (sym s) d)) ];
              counted = (
                  let a : acquires step.live.life.txn (l ++ e ∷ []) ≡ acquires step.live.life.txn l + acquire_by (is_txn step.live.life.txn e.txn) e.what = acquires_push step.live.life.txn l e in
                  let b : acquire_by (is_txn step.live.life.txn e.txn) e.what ≡ 1 = one_counted step.live.life.txn e k (sym step.live.txn) v in
                  let c : acquires step.live.life.txn l ≡ step.live.life.acquired = f.counted in
                  omega arith);
              all_acquired = λ n r. step_acquired n r (le_cases n step.live.life.acquired r);
              few = (let r : e.number < 15 = step.few in let t : e.number ≡ step.live.life.acquired = step.number in omega arith);
              distinct = f.distinct;
              numbers = λ n i. elim (f.numbers n i) [ inl r ↦ inl (omega arith) | inr r ↦ inr r ];
              not_freed = still_none l e _ f.not_freed (no_freed step.live.life.txn);
            }

        fact : (j : ℕ) (life : Life) → PutCase (slots_after no_slots l) k (more (slots_after no_slots l k)) j life → LifeFacts (l ++ e ∷ []) j life
        fact j life (here r s) =
            let t : Some (record { txn = step.live.life.txn; acquired = step.live.life.acquired + 1; released = step.live.life.released }) ≡ Some life = sym (ap more step.live.is) ∙ s in
            subst (λ (i : ℕ). LifeFacts (l ++ e ∷ []) i life) (sym r) (subst (λ (d : Life). LifeFacts (l ++ e ∷ []) k d) (some_same _ life t) made)
        fact j life (there d s) = kept l e j life (inv.lives j life s) (λ n c. other k step.live j life d s c.txn) (λ n c. no_release life.txn n c) (no_freed life.txn)

    no_acquire_here : (k : ℕ) (freed : Bool) → e.what ≡ Release k freed → (x : TxnId) (n : ℕ) → AcquireOf x n e → ⊥
    no_acquire_here k freed v x n d = clash d.slot (sym v ∙ d.what)
      where
        clash : (s : ℕ) → Release k freed ≡ Acquire s → ⊥
        clash s r = cc

    -- after a Release that leaves a reference
    after_release : (k : ℕ) → e.what ≡ Release k false → ReleaseStep (slots_after no_slots l) k e.txn e.number false → Inv (l ++ e ∷ [])
    after_release k v step = record {
      lives = λ j life r. fact j life (put_case (slots_after no_slots l) k (fewer (slots_after no_slots l k) e.number false) j life (sym (slots_at (Release k false) v j) ∙ r));
      has_take = take_of_life k step.live;
    }
      where
        no_freed : (x : TxnId) → FreedOf x e → ⊥
        no_freed x d = clash d.slot (sym v ∙ d.what)
          where
            clash : (s : ℕ) → Release k false ≡ Release s true → ⊥
            clash s r = cc

        made : LifeFacts (l ++ e ∷ []) k (record { txn = step.live.life.txn; acquired = step.live.life.acquired; released = e.number ∷ step.live.life.released })
        made =
            let f = inv.lives k step.live.life step.live.is in
            record {
              taken = moved l e _ f.taken;
              acquired = still_below l e step.live.life f.acquired (λ n d. absurd (no_acquire_here k false v step.live.life.txn n d));
              all_acquired = λ n r. moved l e _ (f.all_acquired n r);
              counted = still_counted l e step.live.life.txn step.live.life.acquired f.counted (λ i t w. no_acquire_here k false v step.live.life.txn e.number (record { txn = t; number = refl; slot = i; what = w }));
              released = λ n i. elim i [
                | inl r ↦ new l e _ (record { txn = sym step.live.txn; number = r; slot = k; freed = false; what = v })
                | inr j ↦ moved l e _ (f.released n j)
              ];
              all_released = λ g m n d. elim (old_or_new l e g m) [ inl i ↦ inr (f.all_released g i n d) | inr s ↦ inl (ap (λ (h : Event). h.number) s ∙ d.number) ];
              few = f.few;
              distinct = (step.new, f.distinct);
              numbers = λ n i. elim i [
                | inl r ↦ subst (λ (m : ℕ). (m < step.live.life.acquired) ⊎ (m ≡ 15)) r step.number
                | inr j ↦ f.numbers n j
              ];
              not_freed = still_none l e _ f.not_freed (no_freed step.live.life.txn);
            }

        fact : (j : ℕ) (life : Life) → PutCase (slots_after no_slots l) k (fewer (slots_after no_slots l k) e.number false) j life → LifeFacts (l ++ e ∷ []) j life
        fact j life (here r s) =
            let t : Some (record { txn = step.live.life.txn; acquired = step.live.life.acquired; released = e.number ∷ step.live.life.released }) ≡ Some life = sym (ap (λ (o : Option Life). fewer o e.number false) step.live.is) ∙ s in
            subst (λ (i : ℕ). LifeFacts (l ++ e ∷ []) i life) (sym r) (subst (λ (d : Life). LifeFacts (l ++ e ∷ []) k d) (some_same _ life t) made)
        fact j life (there d s) = kept l e j life (inv.lives j life s) (λ n c. no_acquire_here k false v life.txn n c) (λ n c. other k step.live j life d s c.txn) (no_freed life.txn)

    -- after the freed Release
    after_freed : (k : ℕ) → e.what ≡ Release k true → ReleaseStep (slots_after no_slots l) k e.txn e.number true → Inv (l ++ e ∷ [])
    after_freed k v step = record {
      lives = λ j life r. fact j life (put_case (slots_after no_slots l) k (fewer (slots_after no_slots l k) e.number true) j life (sym (slots_at (Release k true) v j) ∙ r));
      has_take = take_of_life k step.live;
    }
      where
        fact : (j : ℕ) (life : Life) → PutCase (slots_after no_slots l) k (fewer (slots_after no_slots l k) e.number true) j life → LifeFacts (l ++ e ∷ []) j life
        fact j life (here r s) =
            let t : None ≡ Some life = sym (ap (λ (o : Option Life). fewer o e.number true) step.live.is) ∙ s in
            cc
        fact j life (there d s) = kept l e j life (inv.lives j life s) (λ n c. no_acquire_here k true v life.txn n c) (λ n c. other k step.live j life d s c.txn) (λ f. other k step.live j life d s f.txn)

    after_entry : (v : What) → e.what ≡ v → PoolStepBy slots (slots_after no_slots l) e.txn e.number v → Inv (l ++ e ∷ [])
    after_entry (Take k) v step = after_take k v
    after_entry (Acquire k) v step = after_acquire k v step
    after_entry (Release k true) v step = after_freed k v step
    after_entry (Release k false) v step = after_release k v step
    after_entry _ v step = absurd step

  inv_on : (rest l a : List Event) → log ≡ (l ++ rest) ++ a → Inv l → Inv (l ++ rest)
  inv_on [] l a q inv = subst Inv (sym (append_nil l)) inv
    where
      append_nil : (l : List Event) → l ++ [] ≡ l
      append_nil [] = refl
      append_nil (x ∷ l) = ap (λ (m : List Event). x ∷ m) (append_nil l)
  inv_on (e ∷ rest) l a q inv =
      let q' : log ≡ l ++ e ∷ (rest ++ a) = q ∙ append_assoc l (e ∷ rest) a in
      let shift : (l ++ e ∷ []) ++ rest ≡ l ++ e ∷ rest = append_assoc l (e ∷ []) rest in
      let next : Inv (l ++ e ∷ []) = after_entry l (rest ++ a) e q' inv e.what refl (steps l e (rest ++ a) q') in
      subst Inv shift (inv_on rest (l ++ e ∷ []) a (q ∙ ap (λ (m : List Event). m ++ a) (sym shift)) next)

  pub inv_at : (l a : List Event) → log ≡ l ++ a → Inv l
  inv_at l a q = inv_on l [] a q inv_nil

  -- no Acquire of a transaction stands after its freed Release
  pub none_after_freed : (l a : List Event) (e : Event) → log ≡ l ++ e ∷ a → (x : TxnId) (n : ℕ) → AcquireOf x n e → ¬ Finds (Among l) (FreedOf x)
  none_after_freed l a e q x n c f =
      let s : AcquireStep (slots_after no_slots l) c.slot e.txn e.number = subst (λ (v : What). PoolStepBy slots (slots_after no_slots l) e.txn e.number v) c.what (steps l e a q) in
      let g = (inv_at l (e ∷ a) q).lives c.slot s.live.life s.live.is in
      g.not_freed (subst (λ (y : TxnId). Finds (Among l) (FreedOf y)) (sym c.txn ∙ sym s.live.txn) f)

  -- the number of an Acquire is that of those before it
  pub number_counted : (l a : List Event) (e : Event) → log ≡ l ++ e ∷ a → (x : TxnId) (n : ℕ) → AcquireOf x n e → n ≡ acquires x l
  number_counted l a e q x n c =
      let s : AcquireStep (slots_after no_slots l) c.slot e.txn e.number = subst (λ (v : What). PoolStepBy slots (slots_after no_slots l) e.txn e.number v) c.what (steps l e a q) in
      let g = (inv_at l (e ∷ a) q).lives c.slot s.live.life s.live.is in
      sym c.number ∙ (s.number ∙ (sym g.counted ∙ ap (λ (y : TxnId). acquires y l) (s.live.txn ∙ c.txn)))

  -- a pool acquires at most 15 references of a transaction: the number 15 is left for that of its initiator
  pub number_few : (l a : List Event) (e : Event) → log ≡ l ++ e ∷ a → (x : TxnId) (n : ℕ) → AcquireOf x n e → n < 15
  number_few l a e q x n c =
      let s : AcquireStep (slots_after no_slots l) c.slot e.txn e.number = subst (λ (v : What). PoolStepBy slots (slots_after no_slots l) e.txn e.number v) c.what (steps l e a q) in
      let f : e.number < 15 = s.few in
      let r : e.number ≡ n = c.number in
      omega arith

  -- at the freed Release
  module _ (l a : List Event) (e : Event) (q : log ≡ l ++ e ∷ a) (x : TxnId) (r : FreedOf x e) where
    pub last_step : ReleaseStep (slots_after no_slots l) r.slot e.txn e.number true
    last_step = subst (λ (v : What). PoolStepBy slots (slots_after no_slots l) e.txn e.number v) r.what (steps l e a q)

    pub last_facts : LifeFacts l r.slot last_step.live.life
    last_facts = (inv_at l (e ∷ a) q).lives r.slot last_step.live.life last_step.live.is

    pub last_txn : last_step.live.life.txn ≡ x
    last_txn = last_step.live.txn ∙ r.txn

    -- each number of its Acquires, and 15, is released
    pub number_released : (n : ℕ) → (n < last_step.live.life.acquired) ⊎ (n ≡ 15) → (e.number ≡ n) ⊎ Finds (Among l) (ReleaseOf x n)
    number_released n below = elim (all_held last_step.live.life.acquired (e.number ∷ last_step.live.life.released) (last_step.new, last_facts.distinct) numbers length_is n below) [
      | inl t ↦ inl t
      | inr i ↦ inr (subst (λ (y : TxnId). Finds (Among l) (ReleaseOf y n)) last_txn (last_facts.released n i))
    ]
      where
        length_is : length (e.number ∷ last_step.live.life.released) ≡ last_step.live.life.acquired + 1
        length_is = let t : length last_step.live.life.released ≡ last_step.live.life.acquired = eqb-true (length last_step.live.life.released) last_step.live.life.acquired (sym last_step.is_freed) in omega arith

        numbers : (j : ℕ) → Among (e.number ∷ last_step.live.life.released) j → (j < last_step.live.life.acquired) ⊎ (j ≡ 15)
        numbers j (inl t) = subst (λ (i : ℕ). (i < last_step.live.life.acquired) ⊎ (i ≡ 15)) t last_step.number
        numbers j (inr i) = last_facts.numbers j i

    -- each Acquire of the transaction is released
    pub all_released : (f : Event) → Among l f → (n : ℕ) → AcquireOf x n f → (e.number ≡ n) ⊎ Finds (Among l) (ReleaseOf x n)
    all_released f m n c = number_released n (inl (last_facts.acquired f m n (subst (λ (y : TxnId). AcquireOf y n f) (sym last_txn) c)))

  -- no two Releases of a transaction have one number
  pub released_once : (l a : List Event) (e : Event) → log ≡ l ++ e ∷ a → (x : TxnId) (n : ℕ) → ReleaseOf x n e → ¬ Finds (Among l) (ReleaseOf x n)
  released_once l a e q x n c f =
      let s : ReleaseStep (slots_after no_slots l) c.slot e.txn e.number c.freed = subst (λ (v : What). PoolStepBy slots (slots_after no_slots l) e.txn e.number v) c.what (steps l e a q) in
      let g = (inv_at l (e ∷ a) q).lives c.slot s.live.life s.live.is in
      let same : x ≡ s.live.life.txn = sym c.txn ∙ sym s.live.txn in
      let old : Among s.live.life.released n = g.all_released f.event f.known n (subst (λ (y : TxnId). ReleaseOf y n f.event) same f.is) in
      s.new (subst (λ (m : ℕ). Among s.live.life.released m) (sym c.number) old)
