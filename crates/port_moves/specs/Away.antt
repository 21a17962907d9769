-- The numbers of the accesses that are outstanding.
use Rattle.std.specs.Prelude.{ℕ, ◌≡◌, Bool, true, false, List}
use Rattle.flow_model.specs.Events.{Among}
use Rattle.port_model.specs.Laws.{Removes}

-- the numbers, the last one first, and how many there may be
pub record Outstanding : Type 0 where
  pub numbers : List ℕ
  pub room : ℕ

-- a number was taken off, or it wasn't there
abbrev pub TakesOff : Outstanding → ℕ → Bool → Outstanding → Type 0
TakesOff old s true new = Removes old.numbers s new.numbers × (new.room ≡ old.room)
TakesOff old s false new = (new ≡ old) × (Among old.numbers s → ⊥)
