-- Where no slot of a pool is live, each transaction that was taken has its freed Release.
use Rattle.std.proofs.Common.{◌≡◌, ℕ, ◌+◌, List, [], ◌∷◌, ◌++◌, Option, Some, None, true, false, Bool, cond, nat_eq, eq-eqb, refl, ap, sym, ◌∙◌, subst, ◌⊎◌, inl, inr, append_assoc}
use Rattle.std.proofs.lemmas.Bool.{eqb-true}
use Rattle.tlm_types.specs.declared.words.TxnId.{TxnId}
use Rattle.tlm_types.specs.declared.entry.What.{What}
use Rattle.tlm_types.specs.declared.entry.What.TheVariants.{Take, Acquire, Release}
use Rattle.flow_model.specs.Events.{Event, Among, Finds, IsTakeOf, IsFreedOf}
use Rattle.flow_model.specs.Pools.{Life, Slots, more, fewer, slots_by, slots_after, PoolStepBy}
use Rattle.flow_model.specs.Slots.{put, no_slots}
use Rattle.flow_model.proofs.Splits.{among_left, among_right, among_cases}
use Rattle.flow_model.proofs.Forms.{PoolSteps}

-- a live slot of x
record LiveOf (s : Slots) (x : TxnId) : Type 0 where
  slot : ℕ
  life : Life
  is : s slot ≡ Some life
  txn : life.txn ≡ x

abbrev Kept : List Event → Type 0
Kept l = (x : TxnId) → Finds (Among l) (IsTakeOf x) → LiveOf (slots_after no_slots l) x ⊎ Finds (Among l) (IsFreedOf x)

slots_push : (s : Slots) (l : List Event) (e : Event) → slots_after s (l ++ e ∷ []) ≡ slots_by (slots_after s l) e.txn e.number e.what
slots_push s [] e = refl
slots_push s (x ∷ l) e = slots_push (slots_by s x.txn x.number x.what) l e

some_same : {X : Type 0} (a b : X) → Some a ≡ Some b → a ≡ b
some_same a b q = cc

module _ (l : List Event) (e : Event) (kept : Kept l) where
  slots : Slots
  slots = slots_after no_slots l

  later : (x : TxnId) → Finds (Among l) (IsFreedOf x) → Finds (Among (l ++ e ∷ [])) (IsFreedOf x)
  later x f = record { event = f.event; known = among_left l (e ∷ []) f.event f.known; is = f.is }

  -- a live slot after the slot k was put anew
  live_after : (k : ℕ) (o : Option Life) (v : What) → e.what ≡ v → ((j : ℕ) → slots_by (slots_after no_slots l) e.txn e.number v j ≡ put (slots_after no_slots l) k o j)
      → (x : TxnId) (j : ℕ) (life : Life) → cond (nat_eq j k) o (slots_after no_slots l j) ≡ Some life → life.txn ≡ x → LiveOf (slots_after no_slots (l ++ e ∷ [])) x
  live_after k o v w same x j life q t = record {
    slot = j;
    life = life;
    txn = t;
    is = ap (λ (s : Slots). s j) (slots_push no_slots l e) ∙ (ap (λ (d : What). slots_by (slots_after no_slots l) e.txn e.number d j) w ∙ (same j ∙ q));
  }

  -- an old Take
  old : (k : ℕ) (o : Option Life) (v : What) → e.what ≡ v → ((j : ℕ) → slots_by (slots_after no_slots l) e.txn e.number v j ≡ put (slots_after no_slots l) k o j)
      → ((x : TxnId) (life : Life) → slots_after no_slots l k ≡ Some life → life.txn ≡ x → LiveOf (slots_after no_slots (l ++ e ∷ [])) x ⊎ IsFreedOf x e)
      → (x : TxnId) → Finds (Among l) (IsTakeOf x) → LiveOf (slots_after no_slots (l ++ e ∷ [])) x ⊎ Finds (Among (l ++ e ∷ [])) (IsFreedOf x)
  old k o v w same here x f = elim (kept x f) [
    | inr g ↦ inr (later x g)
    | inl n ↦ go n (nat_eq n.slot k) refl
  ]
    where
      go : (n : LiveOf (slots_after no_slots l) x) → (b : Bool) → nat_eq n.slot k ≡ b → LiveOf (slots_after no_slots (l ++ e ∷ [])) x ⊎ Finds (Among (l ++ e ∷ [])) (IsFreedOf x)
      go n true q = elim (here x n.life (sym (ap (λ (j : ℕ). slots_after no_slots l j) (eqb-true n.slot k q)) ∙ n.is) n.txn) [
        | inl m ↦ inl m
        | inr r ↦ inr (record { event = e; known = among_right l (e ∷ []) e (inl refl); is = r })
      ]
      go n false q = inl (live_after k o v w same x n.slot n.life (ap (λ (b : Bool). cond b o (slots_after no_slots l n.slot)) q ∙ n.is) n.txn)

  -- an old Take, or the new entry
  either : (x : TxnId) → Finds (Among (l ++ e ∷ [])) (IsTakeOf x) → Finds (Among l) (IsTakeOf x) ⊎ IsTakeOf x e
  either x f = elim (among_cases l (e ∷ []) f.event f.known) [
    | inl m ↦ inl (record { event = f.event; known = m; is = f.is })
    | inr m ↦ elim m [ inl q ↦ inr (subst (λ (d : Event). IsTakeOf x d) (sym q) f.is) | inr z ↦ absurd z ]
  ]

  self : (k : ℕ) (o : Option Life) → (life : Life) → o ≡ Some life → cond (nat_eq k k) o (slots_after no_slots l k) ≡ Some life
  self k o life q = ap (λ (b : Bool). cond b o (slots_after no_slots l k)) (eq-eqb k k refl) ∙ q

  kept_by : (pool : ℕ) (v : What) → e.what ≡ v → PoolStepBy pool (slots_after no_slots l) e.txn e.number v → Kept (l ++ e ∷ [])
  kept_by pool (Take k) w step x f = elim (either x f) [
    | inl g ↦ old k (Some (record { txn = e.txn; acquired = 0; released = [] })) (Take k) w (λ j. refl) (λ y life q t. absurd (empty life (sym step.free ∙ q))) x g
    | inr c ↦ inl (live_after k (Some (record { txn = e.txn; acquired = 0; released = [] })) (Take k) w (λ j. refl) x k _ (self k _ _ refl) c.txn)
  ]
    where
      empty : (life : Life) → None ≡ Some life → ⊥
      empty life q = cc
  kept_by pool (Acquire k) w step x f = elim (either x f) [
    | inl g ↦ old k (more (slots_after no_slots l k)) (Acquire k) w (λ j. refl)
        (λ y life q t. inl (live_after k (more (slots_after no_slots l k)) (Acquire k) w (λ j. refl) y k (record { txn = life.txn; acquired = life.acquired + 1; released = life.released }) (self k _ _ (ap more q)) t)) x g
    | inr c ↦ absurd (clash c.slot (sym w ∙ c.what))
  ]
    where
      clash : (s : ℕ) → Acquire k ≡ Take s → ⊥
      clash s q = cc
  kept_by pool (Release k false) w step x f = elim (either x f) [
    | inl g ↦ old k (fewer (slots_after no_slots l k) e.number false) (Release k false) w (λ j. refl)
        (λ y life q t. inl (live_after k (fewer (slots_after no_slots l k) e.number false) (Release k false) w (λ j. refl) y k (record { txn = life.txn; acquired = life.acquired; released = e.number ∷ life.released }) (self k _ _ (ap (λ (o : Option Life). fewer o e.number false) q)) t)) x g
    | inr c ↦ absurd (clash c.slot (sym w ∙ c.what))
  ]
    where
      clash : (s : ℕ) → Release k false ≡ Take s → ⊥
      clash s q = cc
  kept_by pool (Release k true) w step x f = elim (either x f) [
    | inl g ↦ old k (fewer (slots_after no_slots l k) e.number true) (Release k true) w (λ j. refl)
        (λ y life q t. inr (record { txn = sym step.live.txn ∙ (ap (λ (d : Life). d.txn) (some_same step.live.life life (sym step.live.is ∙ q)) ∙ t); slot = k; what = w })) x g
    | inr c ↦ absurd (clash c.slot (sym w ∙ c.what))
  ]
    where
      clash : (s : ℕ) → Release k true ≡ Take s → ⊥
      clash s q = cc
  kept_by pool _ w step x f = absurd step

append_nil : (l : List Event) → l ++ [] ≡ l
append_nil [] = refl
append_nil (x ∷ l) = ap (λ (m : List Event). x ∷ m) (append_nil l)

kept_on : (pool : ℕ) (log : List Event) → PoolSteps pool log → (rest l : List Event) → log ≡ l ++ rest → Kept l → Kept (l ++ rest)
kept_on pool log steps [] l q kept = subst Kept (sym (append_nil l)) kept
kept_on pool log steps (e ∷ rest) l q kept =
    let shift : (l ++ e ∷ []) ++ rest ≡ l ++ e ∷ rest = append_assoc l (e ∷ []) rest in
    subst Kept shift (kept_on pool log steps rest (l ++ e ∷ []) (q ∙ sym shift) (kept_by l e kept pool e.what refl (steps l e rest q)))

pub all_freed : (slots : ℕ) (log : List Event) → PoolSteps slots log → ((k : ℕ) → slots_after no_slots log k ≡ None) →
    (x : TxnId) → Finds (Among log) (IsTakeOf x) → Finds (Among log) (IsFreedOf x)
all_freed pool log steps none x f = elim (kept_on pool log steps log [] refl (λ y g. absurd g.known) x f) [
  | inl n ↦ absurd (clash n.life (sym (none n.slot) ∙ n.is))
  | inr g ↦ g
]
  where
    clash : (life : Life) → None ≡ Some life → ⊥
    clash life q = cc
