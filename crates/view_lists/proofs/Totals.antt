-- What the items of a list amount to.
use Rattle.std.proofs.Common.{◌≡◌, ℕ, zero, suc, ◌+◌, ◌≤◌, List, [], ◌∷◌, ◌++◌, set, refl, sym, ap, arith}
use Rattle.std.specs.List.{sum_by}
use Rattle.std.proofs.lemmas.List.Sums.{sum_by-cons}
use mathlib.Core.Option.{some, some-ne-none, some-injective}
use lib.ListN.{get_elem?}

module _ {A : Type 0} where
  -- the total after a change of one
  pub total_put : (f : A → ℕ) (l : List A) (i : ℕ) (v w : A) → get_elem? l i ≡ some v → sum_by f (set l i w) + f v ≡ sum_by f l + f w
  total_put f [] i v w e = absurd (some-ne-none v (sym e))
  total_put f (x ∷ xs) zero v w e = let h : f x ≡ f v = ap f (some-injective x v e) in omega (arith, sum_by-cons f x xs, sum_by-cons f w xs)
  total_put f (x ∷ xs) (suc i) v w e = let h = total_put f xs i v w e in omega (arith, sum_by-cons f x xs, sum_by-cons f x (set xs i w))

  -- the total with one more
  pub total_end : (f : A → ℕ) (l : List A) (v : A) → sum_by f (l ++ v ∷ []) ≡ sum_by f l + f v
  total_end f [] v = omega (arith, sum_by-cons f v [])
  total_end f (x ∷ xs) v = let h = total_end f xs v in omega (arith, sum_by-cons f x xs, sum_by-cons f x (xs ++ v ∷ []))

  -- the total after a split: one view became two
  pub total_split : (f : A → ℕ) (l : List A) (id : ℕ) (v left right : A) → get_elem? l id ≡ some v → sum_by f (set l id left ++ right ∷ []) + f v ≡ sum_by f l + f left + f right
  total_split f l id v left right mine = let p = total_put f l id v left mine in let e = total_end f (set l id left) right in omega arith

  -- the total after a join: two views became one, and a spent one
  pub total_join : (f : A → ℕ) (l : List A) (id other : ℕ) (v w both spent : A) → get_elem? l id ≡ some v → get_elem? (set l id both) other ≡ some w
      → sum_by f (set (set l id both) other spent) + f v + f w ≡ sum_by f l + f both + f spent
  total_join f l id other v w both spent mine theirs =
      let p = total_put f l id v both mine in
      let q = total_put f (set l id both) other w spent theirs in
      omega arith

  -- one item counts no more than all
  pub one_in : (f : A → ℕ) (l : List A) (i : ℕ) (x : A) → get_elem? l i ≡ some x → f x ≤ sum_by f l
  one_in f [] i x e = absurd (some-ne-none x (sym e))
  one_in f (y ∷ ys) zero x e = let q : f y ≡ f x = ap f (some-injective y x e) in omega (arith, sum_by-cons f y ys)
  one_in f (y ∷ ys) (suc i) x e = let q = one_in f ys i x e in omega (arith, sum_by-cons f y ys)

  -- a total of nothing
  pub total_none : (f : A → ℕ) (l : List A) → ((j : ℕ) (x : A) → get_elem? l j ≡ some x → f x ≡ 0) → sum_by f l ≡ 0
  total_none f [] h = refl
  total_none f (x ∷ xs) h = let q = h 0 x refl in let r = total_none f xs (λ j y at. h (suc j) y at) in omega (arith, sum_by-cons f x xs)

  -- a total of smaller terms
  pub total_less : (f g : A → ℕ) (l : List A) → ((x : A) → f x ≤ g x) → sum_by f l ≤ sum_by g l
  total_less f g [] h = omega arith
  total_less f g (x ∷ xs) h = let q = h x in let r = total_less f g xs h in omega (arith, sum_by-cons f x xs, sum_by-cons g x xs)
