-- What stands where in a list, after a change of one item, one more at the end, or both.
use Rattle.std.proofs.Common.{◌≡◌, ◌≢◌, ◌⊎◌, ℕ, zero, suc, ◌+◌, ◌<◌, List, [], ◌∷◌, ◌++◌, length, set, take, refl, sym, ap, ◌∙◌, subst, inl, inr, ⊎_elim, arith, length-append, length-set}
use Rattle.std.proofs.Math.Seq.{take-append_seam}
use Rattle.std.proofs.lemmas.List.{take-take}
use mathlib.Core.Option.{some, some-ne-none, some-injective}
use lib.ListN.{get_elem?}

module _ {A : Type 0} where
  -- a list of no length
  pub empty : (l : List A) → length l ≡ 0 → l ≡ []
  empty [] h = refl
  empty (x ∷ xs) h = absurd (omega arith)

  -- what stands at a place stands below the length
  pub at_short : (l : List A) (i : ℕ) (a : A) → get_elem? l i ≡ some a → i < length l
  at_short [] i a e = absurd (some-ne-none a (sym e))
  at_short (x ∷ xs) zero a e = omega arith
  at_short (x ∷ xs) (suc i) a e = let h = at_short xs i a e in omega arith

  -- one place has one item
  pub at_once : (l : List A) (i : ℕ) (a b : A) → get_elem? l i ≡ some a → get_elem? l i ≡ some b → a ≡ b
  at_once l i a b x y = some-injective a b (sym x ∙ y)

  -- what stands in a list with one more at its end
  pub at_end : (l : List A) (a b : A) (j : ℕ) → get_elem? (l ++ a ∷ []) j ≡ some b → (get_elem? l j ≡ some b) ⊎ ((j ≡ length l) × (a ≡ b))
  at_end [] a b zero e = inr (refl, some-injective a b e)
  at_end [] a b (suc j) e = absurd (some-ne-none b (sym e))
  at_end (x ∷ xs) a b zero e = inl e
  at_end (x ∷ xs) a b (suc j) e = ⊎_elim (λ t. inl t) (λ t. inr (ap suc t.0, t.1)) (at_end xs a b j e)

  -- what stands in a front of a list stands there in the list
  pub at_take : (n : ℕ) (l : List A) (k : ℕ) (a : A) → get_elem? (take n l) k ≡ some a → get_elem? l k ≡ some a
  at_take zero l k a e = absurd (some-ne-none a (sym e))
  at_take (suc n) [] k a e = e
  at_take (suc n) (x ∷ xs) zero a e = e
  at_take (suc n) (x ∷ xs) (suc k) a e = at_take n xs k a e

  last_at : (l : List A) (a : A) → get_elem? (l ++ a ∷ []) (length l) ≡ some a
  last_at [] a = refl
  last_at (x ∷ xs) a = last_at xs a

  -- the list all, of which n are left, gives its last
  pub popped : (all left rest : List A) (n m : ℕ) (x : A) → left ≡ take n all → left ≡ rest ++ x ∷ [] → length left ≡ n → length rest ≡ m → (rest ≡ take m all) × (get_elem? all m ≡ some x) × (n ≡ m + 1)
  popped all left rest n m x front items long short =
      let len : n ≡ m + 1 = omega (arith, length-append rest (x ∷ []), ap length items) in
      let same : take n all ≡ rest ++ x ∷ [] = sym front ∙ items in
      let cut : take m (take n all) ≡ take m all = take-take m n all (omega arith) in (
        sym (take-append_seam rest (x ∷ [])) ∙ ap (λ (k : ℕ). take k (rest ++ x ∷ [])) short ∙ ap (take m) (sym same) ∙ cut,
        at_take n all m x (subst (λ (l : List A). get_elem? l m ≡ some x) (sym same) (ap (λ (k : ℕ). get_elem? (rest ++ x ∷ []) k) (sym short) ∙ last_at rest x)),
        len,
      )

  -- the changed item stands in its place
  pub at_put : (l : List A) (id : ℕ) (v w : A) → get_elem? l id ≡ some v → get_elem? (set l id w) id ≡ some w
  at_put [] id v w e = absurd (some-ne-none v (sym e))
  at_put (x ∷ xs) zero v w e = refl
  at_put (x ∷ xs) (suc id) v w e = at_put xs id v w e

  -- what holds of each item after one was changed
  pub each_put : (P : ℕ → A → Type 0) (l : List A) (id : ℕ) (w : A)
      → ((j : ℕ) (u : A) → j ≢ id → get_elem? l j ≡ some u → P j u) → P id w
      → (j : ℕ) (u : A) → get_elem? (set l id w) j ≡ some u → P j u
  each_put P [] id w rest here j u is = absurd (some-ne-none u (sym is))
  each_put P (x ∷ xs) zero w rest here zero u is = subst (P 0) (some-injective w u is) here
  each_put P (x ∷ xs) zero w rest here (suc j) u is = rest (suc j) u (λ e. omega arith) is
  each_put P (x ∷ xs) (suc id) w rest here zero u is = rest 0 u (λ e. omega arith) is
  each_put P (x ∷ xs) (suc id) w rest here (suc j) u is =
      each_put (λ k y. P (suc k) y) xs id w (λ k y ne at. rest (suc k) y (λ e. ne (omega arith)) at) here j u is

  -- what holds of each item after one was added
  pub each_end : (P : ℕ → A → Type 0) (l : List A) (w : A)
      → ((j : ℕ) (u : A) → get_elem? l j ≡ some u → P j u) → P (length l) w
      → (j : ℕ) (u : A) → get_elem? (l ++ w ∷ []) j ≡ some u → P j u
  each_end P l w rest here j u is =
      ⊎_elim
      (λ (old : get_elem? l j ≡ some u). rest j u old)
      (λ (new : (j ≡ length l) × (w ≡ u)). subst (λ (y : ℕ × A). P y.0 y.1) (λ i. (sym new.0 i, new.1 i)) here)
      (at_end l w u j is)

  -- what holds of each view after a split: one view became two
  pub each_split : (P : ℕ → A → Type 0) (l : List A) (id : ℕ) (left right : A)
      → ((j : ℕ) (u : A) → j ≢ id → get_elem? l j ≡ some u → P j u) → P id left → P (length l) right
      → (j : ℕ) (u : A) → get_elem? (set l id left ++ right ∷ []) j ≡ some u → P j u
  each_split P l id left right rest here new =
      each_end P (set l id left) right (each_put P l id left rest here) (subst (λ (n : ℕ). P n right) (sym (length-set l id left)) new)

  -- what holds of each view after a join: two views became one, and a spent one
  pub each_join : (P : ℕ → A → Type 0) (l : List A) (id other : ℕ) (both spent : A)
      → ((j : ℕ) (u : A) → j ≢ id → j ≢ other → get_elem? l j ≡ some u → P j u) → P id both → P other spent
      → (j : ℕ) (u : A) → get_elem? (set (set l id both) other spent) j ≡ some u → P j u
  each_join P l id other both spent rest here gone =
      each_put P (set l id both) other spent
      (λ k x apart at. each_put (λ i y. i ≢ other → P i y) l id both (λ i y ne there far. rest i y ne far there) (λ _. here) k x at apart)
      gone
