-- Lists whose items rise, and how many items own lists have together.
use Rattle.std.specs.Prelude.{ℕ, ◌≡◌, ◌+◌, ◌<◌, ◌≤◌, zero, suc, List, [], ◌∷◌, length}
use Rattle.view_lists.specs.Lists.{Has, Within}

-- each item is at a later position than those before it
abbrev pub IsRising : {A : Type 0} → (A → ℕ) → List A → Type 0
IsRising position [] = Unit {0}
IsRising {A} position (x ∷ xs) = ((y : A) → Has xs y → position x < position y) × IsRising position xs

-- how many items the lists of the first n owners have
abbrev pub lengths_of : {A : Type 0} → (ℕ → List A) → ℕ → ℕ
lengths_of mine zero = 0
lengths_of mine (suc n) = lengths_of mine n + length (mine n)

-- The first n owners have lists that rise and stand in a list, which has no more items than they have together.
pub record AreAll {A : Type 0} (position owner : A → ℕ) (mine : ℕ → List A) (n : ℕ) (all : List A) : Type 0 where
  pub rising : (k : ℕ) → k < n → IsRising position (mine k)
  pub within : (k : ℕ) → k < n → Within (mine k) all
  pub own : (k : ℕ) (x : A) → k < n → Has (mine k) x → owner x ≡ k
  pub many : length all ≤ lengths_of mine n
