-- Lists in which each entry stands at its position.
use Rattle.std.proofs.Common.{◌≡◌, ℕ, zero, suc, List, [], ◌∷◌, length, take, refl, sym, ap, ◌∙◌}
use mathlib.Core.Option.{some, some-ne-none, some-injective}
use lib.ListN.{get_elem?}
use Rattle.one_history.specs.declared.entry.Entry.{Entry}
use Rattle.one_history.specs.Alike.{BeginAlike}

module _ {A : Type 0} where
  -- a list that has at each place of another what the other has there begins with it
  begins_with : (short long : List A) → ((k : ℕ) (a : A) → get_elem? short k ≡ some a → get_elem? long k ≡ some a) → short ≡ take (length short) long
  begins_with [] long same = refl
  begins_with (x ∷ xs) [] same = absurd (some-ne-none x (sym (same 0 x refl)))
  begins_with (x ∷ xs) (y ∷ ys) same =
      let first : y ≡ x = some-injective y x (same 0 x refl) in
      ap (λ (l : List A). x ∷ l) (begins_with xs ys (λ k a at. same (suc k) a at)) ∙ ap (λ (z : A). z ∷ take (length xs) ys) (sym first)

pub begin_alike : {E : Type 0} → BeginAlike E
begin_alike {E} short long of_short of_long within = begins_with short long (λ k e at.
    let there = within e (k, at) in
    ap (λ (j : ℕ). get_elem? long j) (sym (of_short k e at) ∙ of_long there.0 e there.1) ∙ there.1)
