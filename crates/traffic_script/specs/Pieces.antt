-- Operations that are repeated, written out.
use Rattle.std.specs.Prelude.{ℕ, zero, suc, List, [], ◌∷◌, ◌++◌}
use Rattle.tlm_model.specs.declared.operation.Operation.{Operation}
use Rattle.traffic_script.specs.declared.piece.Piece.{Piece}

-- so many times these operations
abbrev pub repeated : ℕ → List Operation → List Operation
repeated zero operations = []
repeated (suc n) operations = operations ++ repeated n operations

-- the operations of some pieces, one after another
abbrev pub written_out : List Piece → List Operation
written_out [] = []
written_out (p ∷ pieces) = repeated p.times p.operations ++ written_out pieces
