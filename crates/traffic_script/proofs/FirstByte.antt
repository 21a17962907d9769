-- The first byte that passes a test, as a search for bytes answers it.
use Rattle.std.proofs.Common.{◌≡◌, ℕ, ◌<◌, List, length, Bool, true, false, cond, nat_lt, Option, Some, None, position, sym, ap, ◌∙◌, arith}
use Rattle.std.specs.List.{position_or_len}
use Rattle.std.proofs.lemmas.Bool.{false_from_ne_true}
use Rattle.std.proofs.lemmas.Bool.Decides.{nat_tests}
use Rattle.std.proofs.lemmas.List.Sums.{position_or_len_is}
use Rattle.memchr.specs.Find.{IsFirstByte}

pub first_is_position : (test : ℕ → Bool) (text : List ℕ) (found : Option ℕ) → IsFirstByte test text found → found ≡ position test text
first_is_position test text None none =
    let at_end : position_or_len test text ≡ length text = position_or_len_is test text (length text) 0 (omega arith) (λ k lt. false_from_ne_true _ (none k (omega arith) lt)) (λ lt. absurd (omega arith)) in
    let outside : nat_lt (position_or_len test text) (length text) ≡ false = grind (arith, nat_tests) in
    sym (ap (λ b. cond b (Some (position_or_len test text)) None) outside)
first_is_position test text (Some place) first =
    let lt : place < length text = first.0.high in
    let at_place : position_or_len test text ≡ place = position_or_len_is test text place 0 (omega arith) (λ k below. false_from_ne_true _ (first.0.before k (omega arith) below)) (λ _. first.1) in
    let inside : nat_lt (position_or_len test text) (length text) ≡ true = grind (arith, nat_tests) in
    sym (ap (λ b. cond b (Some (position_or_len test text)) None) inside ∙ ap Some at_place)
