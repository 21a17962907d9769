-- The first place that passes a test, and whether there is one.
use Rattle.std.proofs.Common.{◌≡◌, ℕ, suc, ◌+◌, ◌<◌, Bool, true, false, cond, not, ◌||◌, List, [], ◌∷◌, length, Option, Some, None, refl, sym, ap, ◌∙◌, arith, zero-add, get_or}
use Rattle.std.specs.Prelude.{nat_lt}
use Rattle.std.specs.List.{count_by, sum_by, list_any, position, position_or_len}
use Rattle.std.specs.Option.{is_some}
use Rattle.std.proofs.lemmas.Bool.{lt-ltb, ltb-true}
use Rattle.std.proofs.lemmas.Bool.Decides.{nat_tests}
use Rattle.std.proofs.lemmas.Option.{cond_some}
use Rattle.std.proofs.lemmas.List.Sums.{sum_by-cons, passes_at_first}

either_some : (a b : ℕ) → (nat_lt 0 a || nat_lt 0 b) ≡ nat_lt 0 (a + b)
either_some a b = grind (arith, nat_tests)

either_counts : (b : Bool) (n : ℕ) → (b || nat_lt 0 n) ≡ nat_lt 0 (cond {A = ℕ} b 1 0 + n)
either_counts true n = sym (lt-ltb 0 (1 + n) (omega arith))
either_counts false n = ap (nat_lt 0) (sym (zero-add n))

later : (b : Bool) (n l : ℕ) → (b || nat_lt n l) ≡ nat_lt (cond {A = ℕ} (not b) (1 + n) 0) (suc l)
later true n l = sym (lt-ltb 0 (suc l) (omega arith))
later false n l = grind (arith, nat_tests)

some_by : (b : Bool) (n : ℕ) → is_some (cond b (Some n) None) ≡ b
some_by true n = refl
some_by false n = refl

none_by : (b : Bool) (n : ℕ) → cond b (Some n) None ≡ None → b ≡ false
none_by true n e = cc
none_by false n e = refl

module _ {X : Type 0} where
  -- one has some exactly where all together have
  pub any_sum : (f : X → ℕ) (xs : List X) → list_any (λ x. nat_lt 0 (f x)) xs ≡ nat_lt 0 (sum_by f xs)
  any_sum f [] = refl
  any_sum f (x ∷ xs) =
      ap (λ (b : Bool). nat_lt 0 (f x) || b) (any_sum f xs) ∙ either_some (f x) (sum_by f xs) ∙ ap (nat_lt 0) (sym (sum_by-cons f x xs))

  -- one passes exactly where the count isn't 0
  pub any_count : (p : X → Bool) (xs : List X) → list_any p xs ≡ nat_lt 0 (count_by p xs)
  any_count p [] = refl
  any_count p (x ∷ xs) =
      ap (λ (b : Bool). p x || b) (any_count p xs) ∙ either_counts (p x) (count_by p xs)
      ∙ ap (nat_lt 0) (sym (sum_by-cons (λ y. cond {A = ℕ} (p y) 1 0) x xs))

  -- one passes exactly where the first that does has a place
  pub any_place : (p : X → Bool) (xs : List X) → list_any p xs ≡ nat_lt (position_or_len p xs) (length xs)
  any_place p [] = refl
  any_place p (x ∷ xs) = ap (λ (b : Bool). p x || b) (any_place p xs) ∙ later (p x) (position_or_len p xs) (length xs)

  pub some_place : (p : X → Bool) (xs : List X) → is_some (position p xs) ≡ list_any p xs
  some_place p xs = some_by (nat_lt (position_or_len p xs) (length xs)) (position_or_len p xs) ∙ sym (any_place p xs)

  -- what is known of a place that was found
  pub record Found (p : X → Bool) (xs : List X) (i : ℕ) : Type 0 where
    pub first : position_or_len p xs ≡ i
    pub within : i < length xs
    pub any : list_any p xs ≡ true

  pub found : (p : X → Bool) (xs : List X) (i : ℕ) → position p xs ≡ Some i → Found p xs i
  found p xs i e =
      let c = cond_some (nat_lt (position_or_len p xs) (length xs)) (position_or_len p xs) i e in
      let below = ltb-true (position_or_len p xs) (length xs) c.0 in
      record { first = c.1; within = omega arith; any = any_place p xs ∙ c.0 }

  pub passes_found : (p : X → Bool) (xs : List X) (i : ℕ) (d : X) → Found p xs i → p (get_or xs i d) ≡ true
  passes_found p xs i d f =
      let w = f.within in
      let e = f.first in
      ap (λ (k : ℕ). p (get_or xs k d)) (sym e) ∙ passes_at_first p xs d (omega arith)

  pub none_found : (p : X → Bool) (xs : List X) → position p xs ≡ None → list_any p xs ≡ false
  none_found p xs e = any_place p xs ∙ none_by (nat_lt (position_or_len p xs) (length xs)) (position_or_len p xs) e

  -- a place that was found in a list that is read
  pub found_in : (p : X → Bool) (xs read : List X) (o : Option ℕ) (i : ℕ) → read ≡ xs → o ≡ position p read → o ≡ Some i → Found p xs i
  found_in p xs read o i same e some = found p xs i (ap (λ (l : List X). position p l) (sym same) ∙ (sym e ∙ some))

  pub none_in : (p : X → Bool) (xs read : List X) (o : Option ℕ) → read ≡ xs → o ≡ position p read → o ≡ None → list_any p xs ≡ false
  none_in p xs read o same e none = none_found p xs (ap (λ (l : List X). position p l) (sym same) ∙ (sym e ∙ none))

  pub any_found : (p : X → Bool) (xs : List X) → list_any p xs ≡ true → Found p xs (position_or_len p xs)
  any_found p xs any =
      let below = ltb-true (position_or_len p xs) (length xs) (sym (any_place p xs) ∙ any) in
      record { first = refl; within = below; any = any }

  -- where one passes, the first that does is one of the list
  pub first_within : (p : X → Bool) (xs : List X) → list_any p xs ≡ true → position_or_len p xs < length xs
  first_within p xs any = ltb-true (position_or_len p xs) (length xs) (sym (any_place p xs) ∙ any)
