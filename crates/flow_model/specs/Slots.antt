-- The slots of a payload pool, whatever is told of a live one.
use Rattle.std.specs.Prelude.{ℕ, ◌≡◌, ◌<◌, Option, None, if◌then◌else◌, ◌==◌, IsSome}

-- what is told of each slot, if it is live
abbrev pub SlotsOf : Type 0 → Type 0
SlotsOf X = ℕ → Option X

abbrev pub no_slots : {X : Type 0} → SlotsOf X
no_slots k = None

-- the slots with another one in the place of slot k
abbrev pub put : {X : Type 0} → SlotsOf X → ℕ → Option X → SlotsOf X
put s k x j = if j == k then x else s j

-- a Take takes the least slot that isn't live
pub record TakesLeast {X : Type 0} (slots : ℕ) (s : SlotsOf X) (k : ℕ) : Type 0 where
  pub below : k < slots
  pub free : s k ≡ None
  pub least : (j : ℕ) → j < k → IsSome (s j)
