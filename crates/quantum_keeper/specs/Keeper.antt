-- What is seen of a quantum keeper (IEEE 1666-2011, clause 16.2).
use Rattle.std.specs.Prelude.{ℕ, Bool, ◌+◌, ◌≤◌, ◌||◌, ◌==◌, nat_le}
use Rattle.tlm_model.specs.Rounds.{next_point}
use Rattle.tlm_model.specs.Route.{later}

-- the quantum, the time of the last sync, and the offset from that time
pub record Keeper : Type 0 where
  pub quantum : ℕ
  pub last_sync : ℕ
  pub local : ℕ

abbrev pub new_keeper : ℕ → Keeper
new_keeper quantum = record { quantum = quantum; last_sync = 0; local = 0 }

-- the time that the offset leads to
abbrev pub current_time : Keeper → ℕ
current_time k = later k.last_sync k.local

-- the current time has reached the next point, or there is no quantum
abbrev pub needs_sync : Keeper → Bool
needs_sync k = (k.quantum == 0) || nat_le (next_point k.quantum k.last_sync) (current_time k)

-- the time of the last sync and the offset, as a whole sum, are at least the next point
abbrev pub HasReachedPoint : Keeper → Type 0
HasReachedPoint k = next_point k.quantum k.last_sync ≤ k.last_sync + k.local

-- a keeper whose offset has grown
abbrev pub stepped : Keeper → ℕ → Keeper
stepped k by = record k { local = later k.local by }

-- a keeper whose offset has gone into the time of the last sync
abbrev pub synced : Keeper → Keeper
synced k = record k { last_sync = current_time k; local = 0 }
