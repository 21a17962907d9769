-- How far a script has come.
use Rattle.std.specs.Prelude.{ℕ, ◌≡◌, ◌+◌, ◌<◌, ◌≤◌, List, [], ◌∷◌, ◌++◌, length, drop, nat_lt, if◌then◌else◌}
use Rattle.tlm_model.specs.declared.operation.Operation.{Operation}
use Rattle.traffic_script.specs.declared.piece.Piece.{Piece}
use Rattle.traffic_script.specs.declared.place.ScriptPlace.{ScriptPlace}
use Rattle.traffic_script.specs.Pieces.{repeated, written_out}
use Rattle.traffic_script.specs.Proper.{AreProper}

-- the operations of a script, of which so many are done
pub record Progress : Type 0 where
  pub operations : List Operation
  pub done : ℕ

-- the operations are proper, and no more are done than there are
pub record IsProperProgress (p : Progress) : Type 0 where
  pub proper : AreProper p.operations
  pub within : p.done ≤ length p.operations

-- one more is done, where one is left
abbrev pub advanced : Progress → Progress
advanced p = if nat_lt p.done (length p.operations) then record p { done = p.done + 1 } else p

abbrev pub left_in : ℕ → ℕ → List Piece → List Operation
left_in rounds operation [] = []
left_in rounds operation (p ∷ pieces) = drop operation p.operations ++ (repeated rounds p.operations ++ written_out pieces)

-- what is left from a place on
abbrev pub left_from : ScriptPlace → List Piece → List Operation
left_from at pieces = left_in at.rounds at.operation (drop at.piece pieces)

abbrev pub IsWithinFirst : ℕ → List Piece → Type 0
IsWithinFirst operation [] = Unit {0}
IsWithinFirst operation (p ∷ pieces) = operation < length p.operations

-- a place is at an operation of its piece, where there is such a piece
abbrev pub IsWithin : ScriptPlace → List Piece → Type 0
IsWithin at pieces = IsWithinFirst at.operation (drop at.piece pieces)

-- a place in proper pieces is where so many operations are done
pub record IsReached (pieces : List Piece) (at : ScriptPlace) (count done : ℕ) : Type 0 where
  pub proper : AreProper (written_out pieces)
  pub counted : count ≡ length (written_out pieces)
  pub within_count : done ≤ count
  pub within : IsWithin at pieces
  pub rest : left_from at pieces ≡ drop done (written_out pieces)
