-- Laws over the windows of a router.
use Rattle.std.specs.Prelude.{ℕ, ◌≡◌, ◌<◌, ◌≤◌, ◌↔◌, IsTrue, List, length, slice_index_or, Option, Some, IsSomeAnd}
use Rattle.addr_router.specs.declared.window.Window.{Window}
use Rattle.addr_router.specs.Windows.{HasOneWindow, IsValid, decoded, is_within, seen_at, translated_up}

-- an address of a window decodes by this window, whatever the order of the rows
abbrev pub DecodesByItsWindow : Type 0
DecodesByItsWindow = (rows : List Window) (row : ℕ) (d : Window) (a : ℕ) → IsValid rows → row < length rows → IsTrue (is_within (slice_index_or rows row d) a) → decoded rows a ≡ Some ((slice_index_or rows row d).port, seen_at (slice_index_or rows row d) a)

-- what an address decodes to is translated back to just this address
abbrev pub UpUndoesDecode : Type 0
UpUndoesDecode = (rows : List Window) (a port seen : ℕ) → IsValid rows → HasOneWindow rows port → decoded rows a ≡ Some (port, seen) → translated_up rows seen seen port ≡ Some (a, a)

-- there is a range, and it has the address
abbrev pub HasAddress : Option (ℕ × ℕ) → ℕ → Type 0
HasAddress range a = IsSomeAnd range (λ (r : ℕ × ℕ). (r.0 ≤ a) × (a ≤ r.1))

-- the address leads to the port, and the target there sees it from first to last
abbrev pub DecodesInto : List Window → ℕ → ℕ → ℕ → ℕ → Type 0
DecodesInto rows a port first last = IsSomeAnd (decoded rows a) (λ (d : ℕ × ℕ). (d.0 ≡ port) × (first ≤ d.1) × (d.1 ≤ last))

-- a translated range has just the addresses that decode into the range
abbrev pub UpIsWhatDecodes : Type 0
UpIsWhatDecodes = (rows : List Window) (first last port a : ℕ) → IsValid rows → HasOneWindow rows port → (HasAddress (translated_up rows first last port) a ↔ DecodesInto rows a port first last)

-- the port of each window is its row
abbrev pub PortsAreRows : List Window → Type 0
PortsAreRows rows = (k : ℕ) (d : Window) → k < length rows → (slice_index_or rows k d).port ≡ k

-- then each row is the port of one window
abbrev pub HasWindowOfEachRow : Type 0
HasWindowOfEachRow = (rows : List Window) (port : ℕ) → PortsAreRows rows → port < length rows → HasOneWindow rows port
