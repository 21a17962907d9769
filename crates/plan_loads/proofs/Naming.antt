-- Files that are named one after another.
use Rattle.std.proofs.Common.{◌≡◌, ℕ, List, [], ◌∷◌, ◌++◌, length, refl, ap, sym, ◌∙◌, arith, append-nil, ◌⊎◌, inl, inr}
use Rattle.outside.specs.declared.libraries.NamedFile.{NamedFile}
use Rattle.plan_loads.specs.Generated.{named_files}

-- without a name or a text that is left there are no more files
no-more : (names texts : List (List ℕ)) → (length names ≡ 0) ⊎ (length texts ≡ 0) → named_files names texts ≡ []
no-more [] texts none = refl
no-more (name ∷ names) [] none = refl
no-more (name ∷ names) (text ∷ texts) (inl none) = absurd (omega (arith, none))
no-more (name ∷ names) (text ∷ texts) (inr none) = absurd (omega (arith, none))

pub all-named : (files all : List NamedFile) (names texts : List (List ℕ)) → files ++ named_files names texts ≡ all → (length names ≡ 0) ⊎ (length texts ≡ 0) → files ≡ all
all-named files all names texts so none = sym (ap (λ (more : List NamedFile). files ++ more) (no-more names texts none) ∙ append-nil files) ∙ so
