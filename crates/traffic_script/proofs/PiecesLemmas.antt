-- The operations of pieces, one piece after another.
use Rattle.std.proofs.Common.{◌≡◌, ℕ, zero, suc, List, [], ◌∷◌, ◌++◌, length, refl, sym, ap, ◌∙◌, arith, append_assoc, append-nil}
use Rattle.tlm_model.specs.declared.operation.Operation.{Operation}
use Rattle.traffic_script.specs.declared.piece.Piece.{Piece}
use Rattle.traffic_script.specs.Pieces.{repeated, written_out}

-- the operations of pieces and of more pieces behind them
pub written_out-append : (front back : List Piece) → written_out (front ++ back) ≡ written_out front ++ written_out back
written_out-append [] back = refl
written_out-append (p ∷ front) back =
    ap (λ ops. repeated p.times p.operations ++ ops) (written_out-append front back) ∙ sym (append_assoc (repeated p.times p.operations) (written_out front) (written_out back))

-- the operations of one piece are its rounds
pub written_out-one : (p : Piece) → written_out (p ∷ []) ≡ repeated p.times p.operations
written_out-one p = append-nil (repeated p.times p.operations)

-- no operations, however often
pub repeated-none : (n : ℕ) (ops : List Operation) → length ops ≡ 0 → repeated n ops ≡ []
repeated-none zero ops h = refl
repeated-none (suc n) [] h = repeated-none n [] h
repeated-none (suc n) (op ∷ ops) h = absurd (omega arith)

-- one more piece
pub written_out-push : (pieces : List Piece) (p : Piece) → written_out (pieces ++ p ∷ []) ≡ written_out pieces ++ repeated p.times p.operations
written_out-push pieces p = written_out-append pieces (p ∷ []) ∙ ap (λ ops. written_out pieces ++ ops) (written_out-one p)
