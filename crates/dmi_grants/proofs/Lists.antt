-- Tests of lists, and the least number that has something.
use Rattle.std.proofs.Common.{◌≡◌, ℕ, zero, suc, ◌+◌, ◌<◌, ◌≤◌, Bool, true, false, List, [], ◌∷◌, Some, None, refl, sym, ap, ◌∙◌, ⊎_elim, arith}
use Rattle.std.specs.Prelude.{if◌then◌else◌}
use Rattle.std.specs.List.{list_any}
use Rattle.std.proofs.lemmas.Bool.{or_cases, or_left, or_right, cases_eq}
use mathlib.Core.Option.{some-injective}
use Rattle.view_lists.specs.Lists.{Has}
use Rattle.view_lists.proofs.Members.{has_none, has_later}
use Rattle.region_object.specs.Grants.{least_from}

module _ {A : Type 0} (f : A → Bool) where
  pub any_has : (xs : List A) (x : A) → Has xs x → f x ≡ true → list_any f xs ≡ true
  any_has [] x has is = absurd (has_none x has)
  any_has (y ∷ ys) x (zero, at) is = or_left (f y) (list_any f ys) (ap f (some-injective y x at) ∙ is)
  any_has (y ∷ ys) x (suc k, at) is = or_right (f y) (list_any f ys) (any_has ys x (k, at) is)

  pub has_any : (xs : List A) → list_any f xs ≡ true → (x : A) × Has xs x × (f x ≡ true)
  has_any [] is = absurd (cc (is))
  has_any (y ∷ ys) is = ⊎_elim
      (λ (here : f y ≡ true). (y, (0, refl), here))
      (λ (there : list_any f ys ≡ true). let r = has_any ys there in (r.0, has_later y ys r.0 r.1, r.2))
      (or_cases (f y) (list_any f ys) is)

  pub none_has : (xs : List A) → list_any f xs ≡ false → (x : A) → Has xs x → f x ≡ true → ⊥
  none_has xs none x has is = let yes = any_has xs x has is in let e : true ≡ false = sym yes ∙ none in cc (e)

module _ (test : ℕ → Bool) where
  pub record IsLeast (g n r : ℕ) : Type 0 where
    pub is : test r ≡ true
    pub from : g ≤ r
    pub below : r < g + n

  some_by : (g n r : ℕ) (b : Bool) → test g ≡ b → (least_from test (g + 1) n ≡ Some r → IsLeast (g + 1) n r) → (if b then Some g else least_from test (g + 1) n) ≡ Some r → IsLeast g (suc n) r
  some_by g n r true is next found = let same : g ≡ r = cc (found) in record { is = ap test (sym same) ∙ is; from = omega arith; below = omega arith }
  some_by g n r false is next found = let l = next found in record { is = l.is; from = (let f = l.from in omega arith); below = (let b = l.below in omega arith) }

  pub least_some : (g n r : ℕ) → least_from test g n ≡ Some r → IsLeast g n r
  least_some g zero r found = absurd (cc (found))
  least_some g (suc n) r found = some_by g n r (test g) refl (least_some (g + 1) n r) found

  none_by : (g n k : ℕ) (b : Bool) → test g ≡ b → (least_from test (g + 1) n ≡ None → g + 1 ≤ k → test k ≡ false) → (if b then Some g else least_from test (g + 1) n) ≡ None → g ≤ k → test k ≡ false
  none_by g n k true is next none from = absurd (cc (none))
  none_by g n k false is next none from = ⊎_elim
      (λ (same : g ≡ k). ap test (sym same) ∙ is)
      (λ (other : g ≡ k → ⊥). next none (omega arith))
      (cases_eq g k)

  pub least_none : (g n k : ℕ) → least_from test g n ≡ None → g ≤ k → k < g + n → test k ≡ false
  least_none g zero k none from below = absurd (omega arith)
  least_none g (suc n) k none from below = none_by g n k (test g) refl (λ rest more. least_none (g + 1) n k rest more (omega arith)) none from
