-- Lists of what nodes hold.
use Rattle.std.proofs.Common.{List, [], ◌∷◌}
use Rattle.std.specs.List.{AllByRecursion}

-- what follows of one follows of all
pub all_by : {A : Type 0} (P Q : A → Type 0) → ((x : A) → P x → Q x) → (xs : List A) → AllByRecursion P xs → AllByRecursion Q xs
all_by P Q f [] all = all
all_by P Q f (x ∷ xs) all = (f x all.0, all_by P Q f xs all.1)
