-- What the slots are by the log of their pool: the lives of flow_model, each with the position of its Take.
use Rattle.std.specs.Prelude.{ℕ, ◌≡◌, ◌+◌, ◌<◌, ◌≤◌, ◌==◌, nat_lt, List, [], ◌∷◌, length, Option, Some, None, if◌then◌else◌}
use Rattle.std.specs.List.{AllPairs}
use Rattle.tlm_types.specs.declared.entry.What.{What}
use Rattle.tlm_types.specs.declared.entry.What.TheVariants.{Take}
use Rattle.flow_model.specs.Events.{Event}
use Rattle.flow_model.specs.Pools.{Life, IsPoolLog, slots_after}
use Rattle.flow_model.specs.Slots.{no_slots}
use Rattle.numbered_log.specs.Logged.{IsBefore}
use Rattle.payload_pool.specs.Slots.{SlotView, slot_at, tally}

-- the position of each slot's latest Take
abbrev pub takes_by : (ℕ → ℕ) → ℕ → What → ℕ → ℕ
takes_by at position (Take k) j = if j == k then position else at j
takes_by at position what j = at j

abbrev pub takes_after : (ℕ → ℕ) → List Event → ℕ → ℕ
takes_after at [] = at
takes_after at (e ∷ es) = takes_after (takes_by at e.position e.what) es

abbrev pub no_takes : ℕ → ℕ
no_takes k = 0

-- how often a life with so many Acquires has a reference of this number, out or released
abbrev pub numbers_of : ℕ → ℕ → ℕ
numbers_of acquired n = (if nat_lt n acquired then 1 else 0) + (if 15 == n then 1 else 0)

-- the slot has this life
pub record IsOfLife (s : SlotView) (l : Life) : Type 0 where
  pub txn : s.txn ≡ l.txn
  pub acquired : s.acquired ≡ l.acquired
  pub few : s.acquired ≤ 15
  -- each number is out or was released
  pub numbers : (n : ℕ) → tally n s.out + tally n l.released ≡ numbers_of s.acquired n
  pub total : length s.out + length l.released ≡ s.acquired + 1
  pub live : 0 < length s.out

-- the slot is what the log says: free, or with this life that this Take began
abbrev pub IsOfLog : SlotView → ℕ → Option Life → Type 0
IsOfLog s position None = s.out ≡ []
IsOfLog s position (Some l) = IsOfLife s l × (s.position ≡ position)

-- the slots are those that the log gives, and each entry is as the slots before it allow, and stands past those before it
pub record FitsLog (slots : List SlotView) (events : List Event) : Type 0 where
  pub steps : IsPoolLog (length slots) events
  pub lives : (k : ℕ) → IsOfLog (slot_at slots k) (takes_after no_takes events k) (slots_after no_slots events k)
  pub ordered : AllPairs IsBefore events
