-- Windows in order of their first addresses.
use Rattle.std.specs.Prelude.{ℕ, ◌≤◌, List, All, count_by, length, take}
use Rattle.std.specs.List.Sorted.{IsNonDecreasingBy, IsPermutation}
use Rattle.addr_router.specs.declared.window.Window.{Window}
use Rattle.addr_router.specs.Windows.{IsProper, is_within}

-- how many windows a router keeps a second time, in order
abbrev pub most_in_order : ℕ
most_in_order = 16

-- none of the windows is empty, they rise, and no address lies in two of them
pub record IsInOrder (windows : List Window) : Type 0 where
  pub rises : IsNonDecreasingBy (λ (w : Window). w.first) windows
  pub each : All IsProper windows
  pub once : (a : ℕ) → count_by (λ (w : Window). is_within w a) windows ≤ 1

-- these are the rows, in order
pub record IsOrderOf (rows sorted : List Window) : Type 0 where
  pub same : IsPermutation rows sorted
  pub rises : IsNonDecreasingBy (λ (w : Window). w.first) sorted

-- the second list of a router has its rows in order, where they are few enough
abbrev pub KeepsOrder : List Window → List Window → Type 0
KeepsOrder rows kept = length rows ≤ most_in_order → IsOrderOf rows (take (length rows) kept)
