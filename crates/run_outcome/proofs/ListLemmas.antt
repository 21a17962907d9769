-- Elements of a list, one of which was set or added.
use Rattle.std.proofs.Common.{◌≡◌, ℕ, zero, suc, ◌+◌, ◌<◌, ◌≤◌, ◌⊎◌, inl, inr, List, [], ◌∷◌, ◌++◌, length, map, take, Some, false, nat_eq, refl, ap, sym, ◌∙◌, arith, is_none}
use Rattle.std.specs.Prelude.{slice_get}
use Rattle.std.proofs.lemmas.List.{take_more}
use Rattle.std.proofs.lemmas.Option.{get_or_from_slice_get}
use Rattle.std.proofs.Math.ListN.{set}
use Rattle.std.proofs.lemmas.Bool.Decides.{nat_tests}

-- the element at j is that which was set at k, or one that stood there
pub at_set : {X : Type 0} (xs : List X) (k j : ℕ) (v y : X) → slice_get (set xs k v) j ≡ Some y → ((j ≡ k) × (v ≡ y)) ⊎ ((nat_eq j k ≡ false) × (slice_get xs j ≡ Some y))
at_set [] k j v y is = cc
at_set (x ∷ xs) zero zero v y is = inl (refl, cc)
at_set (x ∷ xs) zero (suc j) v y is = inr (grind (arith, nat_tests), is)
at_set (x ∷ xs) (suc k) zero v y is = inr (grind (arith, nat_tests), is)
at_set (x ∷ xs) (suc k) (suc j) v y is =
    elim (at_set xs k j v y is) [
      | inl same ↦ inl (ap suc same.0, same.1)
      | inr other ↦ inr (apart j k other.0, other.1)
    ]
  where
    apart : (a b : ℕ) → nat_eq a b ≡ false → nat_eq (suc a) (suc b) ≡ false
    apart a b is = grind (arith, nat_tests)

pub at_map : {X Y : Type 0} (f : X → Y) (xs : List X) (k : ℕ) (x : X) → slice_get xs k ≡ Some x → slice_get (map f xs) k ≡ Some (f x)
at_map f [] k x is = cc
at_map f (y ∷ xs) zero x is = let same : y ≡ x = cc in ap (λ z. Some (f z)) same
at_map f (y ∷ xs) (suc k) x is = at_map f xs k x is

pub map-set : {X Y : Type 0} (f : X → Y) (xs : List X) (k : ℕ) (v : X) → map f (set xs k v) ≡ set (map f xs) k (f v)
map-set f [] k v = refl
map-set f (x ∷ xs) zero v = refl
map-set f (x ∷ xs) (suc k) v = ap (λ l. f x ∷ l) (map-set f xs k v)

pub set-same : {X : Type 0} (xs : List X) (k : ℕ) (x : X) → slice_get xs k ≡ Some x → set xs k x ≡ xs
set-same [] k x is = refl
set-same (y ∷ xs) zero x is = let same : y ≡ x = cc in ap (λ z. z ∷ xs) (sym same)
set-same (y ∷ xs) (suc k) x is = ap (λ l. y ∷ l) (set-same xs k x is)

pub length-set' : {X : Type 0} (xs : List X) (k : ℕ) (v : X) → length (set xs k v) ≡ length xs
length-set' [] k v = refl
length-set' (x ∷ xs) zero v = refl
length-set' (x ∷ xs) (suc k) v = ap suc (length-set' xs k v)

-- an element of a list that has one more
pub at_push : {X : Type 0} (xs : List X) (v : X) (j : ℕ) (y : X) → slice_get (xs ++ v ∷ []) j ≡ Some y → (slice_get xs j ≡ Some y) ⊎ ((j ≡ length xs) × (v ≡ y))
at_push [] v zero y is = inr (refl, cc)
at_push [] v (suc j) y is = cc
at_push (x ∷ xs) v zero y is = inl is
at_push (x ∷ xs) v (suc j) y is =
    elim (at_push xs v j y is) [
      | inl same ↦ inl same
      | inr last ↦ inr (ap suc last.0, last.1)
    ]

-- there is an element below the length
pub record HasElement {X : Type 0} (xs : List X) (k : ℕ) : Type 0 where
  pub element : X
  pub at : slice_get xs k ≡ Some element

pub has_element : {X : Type 0} (xs : List X) (k : ℕ) → k < length xs → HasElement xs k
has_element [] k below = absurd (omega arith)
has_element (x ∷ xs) zero below = record { element = x; at = refl }
has_element (x ∷ xs) (suc k) below = let rest = has_element xs k (omega arith) in record { element = rest.element; at = rest.at }

pub within : {X : Type 0} (xs : List X) (k : ℕ) (x : X) → slice_get xs k ≡ Some x → k < length xs
within [] k x is = cc
within (y ∷ xs) zero x is = omega arith
within (y ∷ xs) (suc k) x is = omega (arith, within xs k x is)

pub take_all : {X : Type 0} (n : ℕ) (xs : List X) → length xs ≤ n → take n xs ≡ xs
take_all zero [] all = refl
take_all (suc n) [] all = refl
take_all zero (x ∷ xs) all = absurd (omega arith)
take_all (suc n) (x ∷ xs) all = ap (λ l. x ∷ l) (take_all n xs (omega arith))

pub map-push : {X Y : Type 0} (f : X → Y) (xs : List X) (x : X) → map f (xs ++ x ∷ []) ≡ map f xs ++ f x ∷ []
map-push f [] x = refl
map-push f (y ∷ xs) x = ap (λ l. f y ∷ l) (map-push f xs x)

pub map-same : {X : Type 0} (xs : List X) → map (λ x. x) xs ≡ xs
map-same [] = refl
map-same (x ∷ xs) = ap (λ l. x ∷ l) (map-same xs)

-- the beginning of a list, with one element more
pub take_next : {X : Type 0} (xs : List X) (k : ℕ) (x : X) → slice_get xs k ≡ Some x → take (k + 1) xs ≡ take k xs ++ x ∷ []
take_next xs k x is = take_more xs k x (within xs k x is) ∙ ap (λ y. take k xs ++ y ∷ []) (get_or_from_slice_get xs k x x is)

-- one more element of a list's beginning
pub take_push : {X : Type 0} (xs old new : List X) (k : ℕ) (x : X) → old ≡ take k xs → new ≡ old ++ x ∷ [] → slice_get xs k ≡ Some x → new ≡ take (k + 1) xs
take_push xs old new k x before now at = now ∙ (ap (λ l. l ++ x ∷ []) before ∙ sym (take_next xs k x at))

-- what has been made of each item, with one more
pub map_push : {X Y : Type 0} (f : X → Y) (xs : List X) (old new : List Y) (x : X) (y : Y) → old ≡ map f xs → new ≡ old ++ y ∷ [] → y ≡ f x → new ≡ map f (xs ++ x ∷ [])
map_push f xs old new x y before now is = now ∙ (ap (λ l. l ++ y ∷ []) before ∙ (ap (λ z. map f xs ++ z ∷ []) is ∙ sym (map-push f xs x)))

pub is_within : {X : Type 0} (xs : List X) (k : ℕ) → is_none (slice_get xs k) ≡ false → k < length xs
is_within [] k is = cc
is_within (x ∷ xs) zero is = omega arith
is_within (x ∷ xs) (suc k) is = omega (arith, is_within xs k is)

-- an element of a list's beginning
pub at_taken : {X : Type 0} (n : ℕ) (xs : List X) (k : ℕ) → k < length (take n xs) → slice_get (take n xs) k ≡ slice_get xs k
at_taken zero xs k below = absurd (omega arith)
at_taken (suc n) [] k below = absurd (omega arith)
at_taken (suc n) (x ∷ xs) zero below = refl
at_taken (suc n) (x ∷ xs) (suc k) below = at_taken n xs k (omega arith)
