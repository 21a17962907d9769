-- What waits to be handed out, where all of it waits.
use Rattle.std.proofs.Common.{◌≡◌, ℕ, zero, suc, List, [], ◌∷◌, length, map, replicate, true, Option, Some, None, sym, ap, ◌∙◌}
use Rattle.std.specs.Prelude.{is_some}
use Rattle.std.proofs.lemmas.List.{length-map, length-replicate}
use mathlib.Core.Option.{some, some-ne-none, some-injective}
use lib.ListN.{get_elem?}

module _ {A : Type 0} where
  pub count_waiting : (xs : List (Option A)) (n : ℕ) → map (λ x. is_some x) xs ≡ replicate n true → length xs ≡ n
  count_waiting xs n all = sym (length-map xs (λ x. is_some x)) ∙ ap length all ∙ length-replicate n true

  -- nothing is missing
  pub none_missing : (xs : List (Option A)) (n k : ℕ) → map (λ x. is_some x) xs ≡ replicate n true → get_elem? xs k ≡ some None → ⊥
  none_missing [] n k all at = some-ne-none None (sym at)
  none_missing (None ∷ xs) zero k all at = cc
  none_missing (None ∷ xs) (suc n) k all at = cc
  none_missing (Some x ∷ xs) zero k all at = cc
  none_missing (Some x ∷ xs) (suc n) zero all at = let same : Some x ≡ None = some-injective (Some x) None at in cc
  none_missing (Some x ∷ xs) (suc n) (suc k) all at = let rest : map (λ y. is_some y) xs ≡ replicate n true = cc in none_missing xs n k rest at
