-- The first item of a list that passes a test, as a search from the front comes to it.
use Rattle.std.proofs.Common.{◌≡◌, ◌≢◌, ℕ, ◌+◌, ◌<◌, ◌≤◌, Bool, true, false, List, length, get_or, Some, None, sym, ap, ◌∙◌, ⊎_elim, arith}
use Rattle.std.specs.Prelude.{nat_lt}
use Rattle.std.specs.List.{position, position_or_len}
use Rattle.std.proofs.lemmas.Bool.{cases_eq, cond-true, lt-ltb}
use Rattle.std.proofs.lemmas.List.Sums.{fails_before_first, passes_at_first}

module _ {X : Type 0} where
  -- one that fails and isn't behind the first that passes stands in front of it
  pub fails_in_front : (p : X → Bool) (xs : List X) (i : ℕ) (d : X) → position_or_len p xs < length xs → i ≤ position_or_len p xs → p (get_or xs i d) ≡ false → i + 1 ≤ position_or_len p xs
  fails_in_front p xs i d within on fails =
      ⊎_elim
      (λ (same : i ≡ position_or_len p xs).
      absurd (let q : true ≡ false = sym (ap (λ (k : ℕ). p (get_or xs k d)) same ∙ passes_at_first p xs d within) ∙ fails in cc))
      (λ (other : i ≢ position_or_len p xs). omega (arith, on, other))
      (cases_eq i (position_or_len p xs))

  -- one that passes and isn't behind the first that does is that one
  pub passes_first : (p : X → Bool) (xs : List X) (i : ℕ) (d : X) → position_or_len p xs < length xs → i ≤ position_or_len p xs → p (get_or xs i d) ≡ true → position p xs ≡ Some i
  passes_first p xs i d within on passes =
      ⊎_elim
      (λ (same : i ≡ position_or_len p xs).
      cond-true (nat_lt (position_or_len p xs) (length xs)) (Some (position_or_len p xs)) None (lt-ltb (position_or_len p xs) (length xs) within) ∙ ap (λ (k : ℕ). Some k) (sym same))
      (λ (other : i ≢ position_or_len p xs).
      absurd (let q : true ≡ false = sym passes ∙ fails_before_first p xs i d (omega (arith, on, other)) in cc))
      (cases_eq i (position_or_len p xs))
