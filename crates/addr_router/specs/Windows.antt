-- The windows of a router: an interconnect changes the address (IEEE 1666-2011, clause 14.7).
use Rattle.std.specs.Prelude.{ℕ, ◌≡◌, ◌+◌, ◌-◌, ◌^◌, ◌≤◌, ◌==◌, ◌&&◌, ◌||◌, nat_le, nat_lt, min, max, Bool, IsTrue, if◌then◌else◌, List, [], ◌∷◌, ◌++◌, length, All, AllPairs, find, position, count_by, Option, Some, None, option_map, option_and_then}
use Rattle.std.specs.Option.{option_or}
use Rattle.addr_router.specs.declared.window.Window.{Window}
use Rattle.addr_router.specs.declared.window.WindowFault.{WindowFault}
use Rattle.addr_router.specs.declared.window.WindowFault.TheVariants.{Empty, PastEnd, Overlap}

abbrev pub greatest_address : ℕ
greatest_address = 2 ^ 63 - 1

abbrev pub is_within : Window → ℕ → Bool
is_within w a = nat_le w.first a && nat_le a w.last

-- what the target sees for an address of the window
abbrev pub seen_at : Window → ℕ → ℕ
seen_at w a = a - w.first + w.base

-- the address of the window for which the target sees s
abbrev pub address_of : Window → ℕ → ℕ
address_of w s = s - w.base + w.first

-- the port and what its target sees, by the first window that has the address
abbrev pub decoded : List Window → ℕ → Option (ℕ × ℕ)
decoded rows a = option_map (λ (w : Window). (w.port, seen_at w a)) (find (λ (w : Window). is_within w a) rows)

-- the addresses of the window for which the target sees low to high, if there are any
abbrev pub part_of : Window → ℕ → ℕ → Option (ℕ × ℕ)
part_of w low high = if nat_le low high then Some (address_of w low, address_of w high) else None

-- the same of a range that may go past what the target sees of the window
abbrev pub cut_up : Window → ℕ → ℕ → Option (ℕ × ℕ)
cut_up w first last = part_of w (max first w.base) (min last (seen_at w w.last))

-- the addresses for which the target at the port sees the range, by the first window of the port
abbrev pub translated_up : List Window → ℕ → ℕ → ℕ → Option (ℕ × ℕ)
translated_up rows first last port = option_and_then (λ (w : Window). cut_up w first last) (find (λ (w : Window). w.port == port) rows)

-- just one window has the port
abbrev pub HasOneWindow : List Window → ℕ → Type 0
HasOneWindow rows port = count_by (λ (w : Window). w.port == port) rows ≡ 1

-- the window isn't empty, and its addresses and what the target sees for them stay in range
pub record IsProper (w : Window) : Type 0 where
  pub not_empty : w.first ≤ w.last
  pub last_fits : w.last ≤ greatest_address
  pub seen_fits : seen_at w w.last ≤ greatest_address

-- no address lies in both windows
abbrev pub AreApart : Window → Window → Type 0
AreApart v w = (a : ℕ) → IsTrue (is_within v a) → IsTrue (is_within w a) → ⊥

-- what the windows of a router have to be
pub record IsValid (rows : List Window) : Type 0 where
  pub each : All IsProper rows
  pub apart : AllPairs AreApart rows

abbrev pub is_past_end : Window → Bool
is_past_end w = nat_lt greatest_address w.last || nat_lt greatest_address (seen_at w w.last)

-- what is wrong with the window by itself, where it stands in this row
abbrev pub fault_at : ℕ → Window → Option WindowFault
fault_at row w = if nat_lt w.last w.first then Some (Empty row) else if is_past_end w then Some (PastEnd row) else None

-- the same, behind these rows
abbrev pub row_fault : List Window → Window → Option WindowFault
row_fault earlier w = fault_at (length earlier) w

-- of windows that aren't empty: an address lies in both
abbrev pub is_overlapping : Window → Window → Bool
is_overlapping v w = nat_le v.first w.last && nat_le w.first v.last

-- the overlap with the first of these rows that has an address of the window behind them
abbrev pub overlap_fault : List Window → Window → Option WindowFault
overlap_fault earlier w = option_map (λ (a : ℕ). Overlap a (length earlier)) (position (λ (v : Window). is_overlapping v w) earlier)

-- the first fault of rows, by a test of each row with the rows before it
abbrev pub first_fault : (List Window → Window → Option WindowFault) → List Window → List Window → Option WindowFault
first_fault test earlier [] = None
first_fault test earlier (w ∷ ws) = option_or (test earlier w) (first_fault test (earlier ++ w ∷ []) ws)

-- why rows are not the windows of a router: each row by itself comes before all overlaps
abbrev pub window_fault : List Window → Option WindowFault
window_fault rows = option_or (first_fault row_fault [] rows) (first_fault overlap_fault [] rows)
