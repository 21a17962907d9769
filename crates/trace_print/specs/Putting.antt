-- What a sink takes by way of a line that is made for it.
use Rattle.std.specs.Prelude.{ℕ, ◌≡◌, ◌≤◌, List, ◌++◌, Option, Bool, true, false}
use Rattle.outside.specs.Causes.{Rose}
use Rattle.outside.specs.Pieces.{TakesAll, TakesPrefix}
use Rattle.trace_print.specs.declared.line.Line.{Line}

-- a sink with a line: the bytes that the sink has taken, where it tells them, and its count of faults; the bytes
-- that wait in the line; and whether a write of them has failed
pub record Page : Type 0 where
  pub taken : Option (List ℕ)
  pub faults : ℕ
  pub waiting : List ℕ
  pub failed : Bool

abbrev pub page : Option (List ℕ) → ℕ → Line → Page
page taken faults line = record { taken = taken; faults = faults; waiting = line.waiting; failed = line.failed }

-- the sink has taken what waited and these bytes, but for what still waits
abbrev pub Moves : Page → Page → List ℕ → Type 0
Moves old new bytes = (gone : List ℕ) × (gone ++ new.waiting ≡ old.waiting ++ bytes) × TakesAll old.taken new.taken gone

-- These bytes were put into the line. Where a write fails, a prefix was taken, and nothing is taken from then on.
pub record Puts (old new : Page) (bytes : List ℕ) : Type 0 where
  pub began : new.failed ≡ false → old.failed ≡ false
  pub whole : new.failed ≡ false → Moves old new bytes
  pub part : old.failed ≡ false → new.failed ≡ true → TakesPrefix old.taken new.taken (old.waiting ++ bytes) × Rose old.faults new.faults
  pub over : old.failed ≡ true → (new.failed ≡ true) × (new.taken ≡ old.taken)
  pub later : old.faults ≤ new.faults
