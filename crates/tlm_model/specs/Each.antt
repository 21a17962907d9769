-- What holds of each element of a list with those before it.
use Rattle.std.specs.Prelude.{List, [], ◌∷◌, ◌++◌}

-- P holds of each element with those before it, after these
abbrev pub EachFrom : {X : Type 0} → (List X → X → Type 0) → List X → List X → Type 0
EachFrom P before [] = Unit {0}
EachFrom P before (x ∷ xs) = P before x × EachFrom P (before ++ x ∷ []) xs

-- P holds of each element with those before it: so a list's beginning has it, where the list has it
abbrev pub AtEach : {X : Type 0} → (List X → X → Type 0) → List X → Type 0
AtEach P xs = EachFrom P [] xs
