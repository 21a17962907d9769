-- The answers of `close` and of `enter`.
use Rattle.one_history.specs.declared.close.Closed.{Closed}
use Rattle.one_history.specs.declared.close.Closed.TheVariants.{Done, Refused}
use Rattle.one_history.specs.declared.gates.Entered.{Entered}
use Rattle.one_history.specs.declared.gates.Entered.TheVariants.{Inside, Marked}
use Rattle.one_history.specs.Held.{Ended}

-- the first where the note is inside, the second where the gate was marked
abbrev pub ByEntered : Entered → Type 0 → Type 0 → Type 0
ByEntered Inside inside marked = inside
ByEntered Marked inside marked = marked

module _ {E G W : Type 0} where
  -- the history was closed, and this holds of it
  abbrev pub IfDone : Closed E G W → (Ended E G → Type 0) → Type 0
  IfDone (Done s) holds = holds s
  IfDone (Refused history seats notes) holds = ⊥
