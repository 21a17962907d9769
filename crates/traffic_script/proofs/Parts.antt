-- The parts of a text at some bytes.
use Rattle.std.proofs.Common.{◌≡◌, ℕ, ◌+◌, ◌-◌, ◌<◌, List, [], ◌∷◌, length, take, drop, Bool, true, false, cond, nat_lt, Some, None, position, refl, arith, length-drop}
use Rattle.std.specs.List.{position_or_len, slice_split}
use Rattle.std.proofs.Math.Seq.{take-length}
use Rattle.std.proofs.lemmas.Bool.Decides.{nat_tests}
use Rattle.std.proofs.lemmas.Option.{cond_some}
use Rattle.std.proofs.lemmas.List.Sums.{fails_before_first}
use Rattle.std.proofs.lemmas.List.Splits.{slice_split_first, slice_split_none}

-- the first byte that passes parts a text
pub split_first : (p : ℕ → Bool) (text : List ℕ) (place : ℕ) → position p text ≡ Some place → (place < length text) × (slice_split p text ≡ take place text ∷ slice_split p (drop (place + 1) text))
split_first p text place e =
    let first = position_or_len p text in
    let q = cond_some (nat_lt first (length text)) first place e in
    let lt : first < length text = grind (arith, nat_tests) in
    (omega (arith, q.1), rw q.1 at (slice_split_first p text 0 lt))

-- a text in which no byte passes is one part
pub split_none : (p : ℕ → Bool) (text : List ℕ) → position p text ≡ None → slice_split p text ≡ text ∷ []
split_none p text e = by_test (nat_lt first (length text)) refl e
  where
    first : ℕ
    first = position_or_len p text

    by_test : (b : Bool) → nat_lt first (length text) ≡ b → cond b (Some first) None ≡ None → slice_split p text ≡ text ∷ []
    by_test true q h = cc
    by_test false q h = slice_split_none p text (λ k d lt. fails_before_first p text k d (grind (arith, nat_tests)))

-- what a slice calls its bytes from n on
pub rest_is : (text : List ℕ) (n : ℕ) → take (length text - n) (drop n text) ≡ drop n text
rest_is text n = rw (← length-drop n text) (take-length (drop n text))
