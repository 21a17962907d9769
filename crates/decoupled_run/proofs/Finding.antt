-- What is found in a list.
use Rattle.std.proofs.Common.{◌≡◌, ℕ, suc, ◌+◌, ◌<◌, ◌≤◌, Bool, true, false, not, cond, nat_lt, List, [], ◌∷◌, length, Some, None, slice_get, refl, sym, ap, subst, ◌∙◌, ⊎_elim, arith}
use Rattle.std.specs.Prelude.{IsSomeAnd, position}
use Rattle.std.specs.List.{position_or_len}
use Rattle.std.proofs.lemmas.Bool.{ltb-false, ltb-true}
use Rattle.view_lists.specs.Lists.{Has}
use Rattle.view_lists.proofs.Members.{has_none}
use Rattle.good_history.proofs.CountLemmas.{has_first}

module _ {X : Type 0} (test : X → Bool) where
  past_all : (xs : List X) → length xs ≤ position_or_len test xs → (x : X) → Has xs x → test x ≡ false
  past_all [] past x has = absurd (has_none x has)
  past_all (y ∷ xs) past x has = by (test y) refl (past_all xs) past
    where
      by : (b : Bool) → test y ≡ b → (length xs ≤ position_or_len test xs → (z : X) → Has xs z → test z ≡ false) → suc (length xs) ≤ cond (not b) (1 + position_or_len test xs) 0 → test x ≡ false
      by true here rest late = absurd (omega arith)
      by false here rest late = ⊎_elim
          (λ (same : y ≡ x). ap test (sym same) ∙ here)
          (λ (later : Has xs x). rest (omega arith) x later)
          (has_first y xs x has)

  -- where none is found, none passes
  pub none_passes : (xs : List X) → position test xs ≡ None → (x : X) → Has xs x → test x ≡ false
  none_passes xs none = by (nat_lt (position_or_len test xs) (length xs)) refl none
    where
      by : (b : Bool) → nat_lt (position_or_len test xs) (length xs) ≡ b → cond b (Some (position_or_len test xs)) None ≡ None → (x : X) → Has xs x → test x ≡ false
      by true less is = absurd (cc (is))
      by false past is = past_all xs (ltb-false (position_or_len test xs) (length xs) past)

  first_at : (xs : List X) → position_or_len test xs < length xs → IsSomeAnd (slice_get xs (position_or_len test xs)) (λ x. test x ≡ true)
  first_at [] less = absurd (omega arith)
  first_at (y ∷ xs) less = by (test y) refl (first_at xs) less
    where
      next : suc (position_or_len test xs) ≡ 1 + position_or_len test xs
      next = omega arith

      by : (b : Bool) → test y ≡ b → (position_or_len test xs < length xs → IsSomeAnd (slice_get xs (position_or_len test xs)) (λ x. test x ≡ true)) → cond (not b) (1 + position_or_len test xs) 0 < suc (length xs) → IsSomeAnd (slice_get (y ∷ xs) (cond (not b) (1 + position_or_len test xs) 0)) (λ x. test x ≡ true)
      by true here rest near = here
      by false here rest near = subst (λ (k : ℕ). IsSomeAnd (slice_get (y ∷ xs) k) (λ x. test x ≡ true)) next (rest (omega arith))

  -- what is found passes
  pub found_passes : (xs : List X) (k : ℕ) → position test xs ≡ Some k → IsSomeAnd (slice_get xs k) (λ x. test x ≡ true)
  found_passes xs k found = by (nat_lt (position_or_len test xs) (length xs)) refl found
    where
      by : (b : Bool) → nat_lt (position_or_len test xs) (length xs) ≡ b → cond b (Some (position_or_len test xs)) None ≡ Some k → IsSomeAnd (slice_get xs k) (λ x. test x ≡ true)
      by true less is =
          let same : position_or_len test xs ≡ k = cc (is) in
          subst (λ (j : ℕ). IsSomeAnd (slice_get xs j) (λ x. test x ≡ true)) same (first_at xs (ltb-true (position_or_len test xs) (length xs) less))
      by false past is = absurd (cc (is))
