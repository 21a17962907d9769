-- The bytes of lines that follow one another.
use Rattle.std.proofs.Common.{◌≡◌, ℕ, zero, suc, ◌+◌, List, [], ◌∷◌, ◌++◌, map, take, Some, ap, ◌∙◌, arith}
use Rattle.std.specs.Prelude.{slice_get}
use Rattle.std.specs.List.{concat}
use Rattle.std.proofs.lemmas.List.{append-nil, map-append}
use Rattle.std.proofs.lemmas.List.Folds.{concat-append}
use Rattle.tlm_model.specs.Text.{line_of}
use Rattle.trace_print.specs.Told.{text_of}

pub text-append : (a b : List (List (List ℕ))) → text_of (a ++ b) ≡ text_of a ++ text_of b
text-append a b = ap concat (map-append line_of a b) ∙ concat-append (map line_of a) (map line_of b)

pub text-one : (l : List (List ℕ)) → text_of (l ∷ []) ≡ line_of l
text-one l = append-nil (line_of l)

-- one element more of what a list is mapped to
pub map-more : {A B : Type 0} → (f : A → B) (xs : List A) (k : ℕ) (x : A) → slice_get xs k ≡ Some x → map f (take (k + 1) xs) ≡ map f (take k xs) ++ f x ∷ []
map-more f [] k x e = cc
map-more f (y ∷ xs) zero x e = let same : y ≡ x = cc in ap (λ z. f z ∷ []) same
map-more f (y ∷ xs) (suc k) x e =
    let n : suc k + 1 ≡ suc (k + 1) = omega arith in
    ap (λ (i : ℕ). map f (take i (y ∷ xs))) n ∙ ap (λ l. f y ∷ l) (map-more f xs k x e)
