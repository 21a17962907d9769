-- Distinct items of a list are no more than the list has.
use Rattle.std.proofs.Common.{◌≡◌, ◌⊎◌, ℕ, zero, suc, ◌+◌, ◌≤◌, List, [], ◌∷◌, length, refl, sym, ap, ◌∙◌, subst, inl, inr, ⊎_elim, arith}
use mathlib.Core.Option.{some, some-ne-none, some-injective}
use lib.ListN.{get_elem?}
use Rattle.view_lists.specs.Lists.{Has, Within, AreDistinct}
use Rattle.view_lists.proofs.Members.{has_later}

module _ {A : Type 0} where
  -- the list without its k-th item
  without : List A → ℕ → List A
  without [] k = []
  without (x ∷ xs) zero = xs
  without (x ∷ xs) (suc k) = x ∷ without xs k

  length-without : (l : List A) (k : ℕ) (x : A) → get_elem? l k ≡ some x → length (without l k) + 1 ≡ length l
  unfolding without
  length-without [] k x is = absurd (some-ne-none x (sym is))
  length-without (y ∷ ys) zero x is = omega arith
  length-without (y ∷ ys) (suc k) x is = let h = length-without ys k x is in omega arith

  has-without : (l : List A) (k : ℕ) (x y : A) → get_elem? l k ≡ some x → Has l y → (x ≡ y → ⊥) → Has (without l k) y
  unfolding without
  has-without [] k x y is h apart = absurd (some-ne-none x (sym is))
  has-without (z ∷ zs) zero x y is (zero, e) apart = absurd (apart (some-injective x y (sym is ∙ e)))
  has-without (z ∷ zs) zero x y is (suc j, e) apart = (j, e)
  has-without (z ∷ zs) (suc k) x y is (zero, e) apart = (zero, e)
  has-without (z ∷ zs) (suc k) x y is (suc j, e) apart = let h = has-without zs k x y is (j, e) apart in (suc h.0, h.1)

  pub length-distinct : (xs l : List A) → AreDistinct xs → Within xs l → length xs ≤ length l
  length-distinct [] l distinct within = omega arith
  length-distinct (x ∷ xs) l distinct within =
      let at = within x (0, refl) in
      let rest = length-distinct xs (without l at.0) distinct.1 (λ y h. has-without l at.0 x y at.1 (within y (has_later x xs y h)) (λ same. distinct.0 (subst (λ (z : A). Has xs z) (sym same) h))) in
      omega (arith, length-without l at.0 x at.1)

  -- an item other than the k-th
  at-without : (l : List A) (k j : ℕ) (y : A) → get_elem? l j ≡ some y → (j ≡ k) ⊎ Has (without l k) y
  unfolding without
  at-without [] k j y is = absurd (some-ne-none y (sym is))
  at-without (z ∷ zs) zero zero y is = inl refl
  at-without (z ∷ zs) zero (suc j) y is = inr (j, is)
  at-without (z ∷ zs) (suc k) zero y is = inr (zero, is)
  at-without (z ∷ zs) (suc k) (suc j) y is = ⊎_elim (λ same. inl (ap suc same)) (λ h. inr (suc h.0, h.1)) (at-without zs k j y is)

  -- distinct items of a list that are as many as the list has are all that it has
  pub within-distinct : (xs l : List A) → AreDistinct xs → Within xs l → length l ≤ length xs → Within l xs
  within-distinct [] [] distinct within few y h = h
  within-distinct [] (z ∷ l) distinct within few y h = absurd (omega arith)
  within-distinct (x ∷ xs) l distinct within few y h =
      let at = within x (0, refl) in
      let fewer : length (without l at.0) ≤ length xs = omega (arith, length-without l at.0 x at.1) in
      let rest = within-distinct xs (without l at.0) distinct.1 (λ z has. has-without l at.0 x z at.1 (within z (has_later x xs z has)) (λ same. distinct.0 (subst (λ (w : A). Has xs w) (sym same) has))) fewer in
      ⊎_elim
      (λ (same : h.0 ≡ at.0). (0, sym at.1 ∙ (ap (get_elem? l) (sym same) ∙ h.1)))
      (λ (other : Has (without l at.0) y). has_later x xs y (rest y other))
      (at-without l at.0 h.0 y h.1)
