-- The places of a line.
use Rattle.std.specs.Prelude.{ℕ, ◌≡◌, List, ◌∷◌, ◌++◌, length}

-- x stands at this place of the line
pub record StandsAt {A : Type 0} (xs : List A) (at : ℕ) (x : A) : Type 0 where
  pub before : List A
  pub rest : List A
  pub line : xs ≡ before ++ x ∷ rest
  pub place : at ≡ length before
