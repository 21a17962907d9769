-- How many members are in which round.
use Rattle.std.specs.Prelude.{◌≡◌, ◌==◌, ℕ, ◌+◌, ◌^◌, ◌≤◌, ◌<◌, Bool, false, not, ◌&&◌, List, length, count_by}
use Rattle.time_board.specs.declared.rounds.Member.{Member}
use Rattle.time_board.specs.declared.tally.Tally.{Tally}
use Rattle.time_board.specs.Rounds.{member_of}

-- is an unfinished member in this round
abbrev pub is_in : ℕ → Member → Bool
is_in round m = not m.finished && (m.round == round)

-- an unfinished member is in this round or in the next one
abbrev pub IsWithin : ℕ → Member → Type 0
IsWithin lowest m = m.finished ≡ false → (lowest ≤ m.round) × (m.round ≤ lowest + 1)

-- the tally counts the members
pub record IsTallied (members : List Member) (t : Tally) : Type 0 where
  pub within : (k : ℕ) → IsWithin t.lowest (member_of members k)
  pub lower : count_by (is_in t.lowest) members ≡ t.behind
  pub upper : count_by (is_in (t.lowest + 1)) members ≡ t.ahead
  pub few : length members < 2 ^ 32
