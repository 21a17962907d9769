-- What contracts see of a line that is made for a sink.
use Rattle.std.specs.Prelude.{ℕ, List, Bool}

-- the bytes that wait in the line, and whether a write to the sink has failed
pub record LineView : Type 0 where
  pub waiting : List ℕ
  pub failed : Bool
