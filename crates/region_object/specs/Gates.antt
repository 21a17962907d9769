-- The gates of a memory as it keeps them, beside its log.
use Rattle.std.specs.Prelude.{ℕ, ◌≡◌, ◌+◌, ◌-◌, ◌<◌, ◌≤◌, Bool, true, false, ◌&&◌, IsTrue, List, length, drop, position, nat_le, nat_lt, slice_index_or, Option, option_map}
use Rattle.tlm_types.specs.declared.words.MemoryTraits.{MemoryTraits}
use Rattle.tlm_types.specs.declared.entry.Entry.{Entry}
use Rattle.region_object.specs.declared.gates.Gate.{Gate}
use Rattle.region_object.specs.declared.gates.Gate.TheVariants.{Fresh, Given, Shut}
use Rattle.region_object.specs.Grants.{grants_in, is_closed, is_given, is_open}

-- the gates, numbered from the first, and how many of them were given
pub record GatesView : Type 0 where
  pub first : ℕ
  pub gates : List Gate
  pub given : ℕ

abbrev pub was_given : Gate → Bool
was_given Fresh = false
was_given (Given position) = true
was_given Shut = true

abbrev pub is_shut : Gate → Bool
is_shut Fresh = false
is_shut (Given position) = false
is_shut Shut = true

-- the gate was given before this position and isn't closed
abbrev pub is_given_before : ℕ → Gate → Bool
is_given_before before Fresh = false
is_given_before before (Given position) = nat_lt position before
is_given_before before Shut = false

-- whether a gate of this number is closed
abbrev pub is_shut_at : GatesView → ℕ → Bool
is_shut_at v g = nat_le v.first g && is_shut (slice_index_or v.gates (g - v.first) Fresh)

-- the least gate from `from` on that was given before this position and isn't closed
abbrev pub open_from : GatesView → ℕ → ℕ → Option ℕ
open_from v from before = option_map (λ (k : ℕ). v.first + (from - v.first) + k) (position (is_given_before before) (drop (from - v.first) v.gates))

-- what is kept of gate g is what the log tells of it
pub record IsGate (traits : MemoryTraits) (log : List Entry) (g : ℕ) (x : Gate) : Type 0 where
  pub given : is_given g log ≡ was_given x
  pub closed : is_closed g log ≡ is_shut x
  pub open_ : (low high before : ℕ) → is_open log low high before g ≡ (is_given_before before x && (nat_le 0 high && nat_le low (traits.size - 1)))

-- the gates are as many as the memory has, and what the log tells of them; it tells of no others
pub record HoldsGates (traits : MemoryTraits) (v : GatesView) (log : List Entry) : Type 0 where
  pub long : length v.gates ≡ traits.gates
  pub named : v.first + traits.gates < 4294967296
  pub count : v.given ≡ grants_in log
  pub few : v.given ≤ traits.gates
  pub each : (k : ℕ) (x : Gate) → k < length v.gates → IsGate traits log (v.first + k) (slice_index_or v.gates k x)
  pub within : (g : ℕ) → IsTrue (is_given g log) → (v.first ≤ g) × (g < v.first + v.given)
  pub closings : (g : ℕ) → IsTrue (is_closed g log) → IsTrue (is_given g log)
