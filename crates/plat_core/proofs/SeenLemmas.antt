-- Two numbered lists of entries, of which one has all of the other.
use Rattle.std.proofs.Common.{◌≡◌, ℕ, zero, suc, ◌+◌, ◌<◌, ◌≤◌, List, [], ◌∷◌, ◌++◌, length, take, refl, sym, ap, ◌∙◌, ⊎_elim, arith}
use Rattle.std.proofs.lemmas.Bool.{cases_lt}
use mathlib.Core.Option.{some, some-ne-none, some-injective}
use lib.ListN.{get_elem?}
use Rattle.view_lists.specs.Lists.{Has, Within}
use Rattle.view_lists.proofs.Places.{at_short, empty}
use Rattle.one_history.specs.declared.entry.Entry.{Entry}
use Rattle.one_history.specs.Closing.{Numbered}
use Rattle.one_history.proofs.Alike.{begin_alike}
use Rattle.run_outcome.proofs.ListLemmas.{take_all}

-- what stands below the length is there
pub record IsThere {A : Type 0} (xs : List A) (k : ℕ) : Type 0 where
  pub item : A
  pub at : get_elem? xs k ≡ some item

pub there : {A : Type 0} (xs : List A) (k : ℕ) → k < length xs → IsThere xs k
there [] k less = absurd (omega arith)
there (x ∷ xs) zero less = record { item = x; at = refl }
there (x ∷ xs) (suc k) less = let t = there xs k (omega arith) in record { item = t.item; at = t.at }

-- the last one of a list stands behind those before it
last_behind : {A : Type 0} (xs : List A) (k : ℕ) (x : A) → get_elem? xs k ≡ some x → length xs ≡ k + 1 → xs ≡ take k xs ++ x ∷ []
last_behind [] k x at long = absurd (some-ne-none x (sym at))
last_behind (y ∷ ys) zero x at long =
    ap (λ (l : List _). y ∷ l) (empty ys (omega arith)) ∙ ap (λ z. z ∷ []) (some-injective y x at)
last_behind (y ∷ ys) (suc k) x at long = ap (λ (l : List _). y ∷ l) (last_behind ys k x at (omega arith))

module _ {E : Type 0} (short long : List (Entry E)) (of_short : Numbered short) (of_long : Numbered long) (within : Within short long) where
  begins : short ≡ take (length short) long
  begins = begin_alike short long of_short of_long within

  pub no_shorter : length short ≤ length long
  no_shorter = ⊎_elim
      (λ (less : length long < length short).
      let same : length short ≡ length long = ap length (begins ∙ take_all (length short) long (omega arith)) in
      absurd (omega arith))
      (λ (more : length short ≤ length long). more)
      (cases_lt (length long) (length short))

  -- of equal lengths they are the same
  pub same_seen : length long ≡ length short → long ≡ short
  same_seen same = sym (begins ∙ take_all (length short) long (omega arith))

  -- one that is past all of the shorter stands behind it
  pub one_more : length long ≤ length short + 1 → (e : Entry E) → Has long e → ((f : Entry E) → Has short f → f.position < e.position) → long ≡ short ++ e ∷ []
  one_more few e has past =
      let k : ℕ = has.0 in
      let at = has.1 in
      let position : e.position ≡ k = of_long k e at in
      let below = at_short long k e at in
      ⊎_elim
      (λ (early : k < length short).
      let t = there short k early in
      let before : t.item.position < e.position = past t.item (k, t.at) in
      let same : t.item.position ≡ k = of_short k t.item t.at in
      absurd (omega arith))
      (λ (late : length short ≤ k).
      let here : k ≡ length short = omega arith in
      let front : take k long ≡ short = ap (λ (n : ℕ). take n long) here ∙ sym begins in
      last_behind long k e at (omega arith) ∙ ap (λ (l : List (Entry E)). l ++ e ∷ []) front)
      (cases_lt k (length short))
