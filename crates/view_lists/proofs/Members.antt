-- What a list has.
use Rattle.std.proofs.Common.{◌≡◌, ◌⊎◌, zero, suc, List, [], ◌∷◌, ◌++◌, map, refl, sym, ap, inl, inr, ⊎_elim}
use mathlib.Core.Option.{some, some-ne-none, some-injective}
use Rattle.view_lists.specs.Lists.{Has}

module _ {A : Type 0} where
  -- a list has what its front has
  pub has_left : (l m : List A) (a : A) → Has l a → Has (l ++ m) a
  has_left [] m a h = absurd (some-ne-none a (sym h.1))
  has_left (x ∷ xs) m a (zero, e) = (zero, e)
  has_left (x ∷ xs) m a (suc k, e) = let t = has_left xs m a (k, e) in (suc t.0, t.1)

  -- a list has what its end has
  pub has_right : (l m : List A) (a : A) → Has m a → Has (l ++ m) a
  has_right [] m a h = h
  has_right (x ∷ xs) m a h = let t = has_right xs m a h in (suc t.0, t.1)

  -- one more in front
  pub has_later : (x : A) (l : List A) (a : A) → Has l a → Has (x ∷ l) a
  has_later x l a h = (suc h.0, h.1)

  -- what a list has, its front or its end has
  pub has_either : (l m : List A) (a : A) → Has (l ++ m) a → Has l a ⊎ Has m a
  has_either [] m a h = inr h
  has_either (x ∷ xs) m a (zero, e) = inl (zero, e)
  has_either (x ∷ xs) m a (suc k, e) = ⊎_elim (λ t. inl (suc t.0, t.1)) (λ t. inr t) (has_either xs m a (k, e))

  -- a list of one has that one
  pub has_one : (x a : A) → Has (x ∷ []) a → x ≡ a
  has_one x a (zero, e) = some-injective x a e
  has_one x a (suc k, e) = absurd (some-ne-none a (sym e))

  -- an empty list has nothing
  pub has_none : (a : A) → Has [] a → ⊥
  has_none a h = some-ne-none a (sym h.1)

  -- what a mapped list has comes from the list
  pub has_map : {B : Type 0} (f : A → B) (l : List A) (b : B) → Has (map f l) b → (a : A) × Has l a × (f a ≡ b)
  has_map f [] b h = absurd (some-ne-none b (sym h.1))
  has_map f (x ∷ xs) b (zero, e) = (x, (zero, refl), some-injective (f x) b e)
  has_map f (x ∷ xs) b (suc k, e) = let t = has_map f xs b (k, e) in (t.0, (suc t.1.0, t.1.1), t.2)

  -- a mapped list has what comes from the list
  pub has_mapped : {B : Type 0} (f : A → B) (l : List A) (a : A) → Has l a → Has (map f l) (f a)
  has_mapped f [] a h = absurd (some-ne-none a (sym h.1))
  has_mapped f (x ∷ xs) a (zero, e) = (zero, ap (λ (y : A). some (f y)) (some-injective x a e))
  has_mapped f (x ∷ xs) a (suc k, e) = let t = has_mapped f xs a (k, e) in (suc t.0, t.1)
