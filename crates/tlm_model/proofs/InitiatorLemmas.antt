-- The initiators of a plan.
use Rattle.std.proofs.Common.{◌≡◌, ℕ, zero, suc, ◌+◌, List, [], ◌∷◌, Some, slice_get, ap, arith}
use Rattle.tlm_model.specs.declared.operation.Operation.{Operation}
use Rattle.tlm_model.specs.declared.platform.InitiatorRow.{InitiatorRow}
use Rattle.tlm_model.specs.Plan.{Initiator, initiators_from}

some_same : {X : Type 0} (a b : X) → Some a ≡ Some b → a ≡ b
some_same a b q = cc

-- the one at place n has the number n more than the first, and the row at that place
pub initiator_from : (m : ℕ) (rows : List InitiatorRow) (scripts : List (List Operation)) (n : ℕ) (i : Initiator) → slice_get (initiators_from m rows scripts) n ≡ Some i → (i.number ≡ m + n) × (slice_get rows n ≡ Some i.row)
initiator_from m [] scripts n i q = cc
initiator_from m (x ∷ rows) [] n i q = cc
initiator_from m (x ∷ rows) (s ∷ scripts) zero i q =
    let same = some_same _ i q in
    let k : m ≡ i.number = ap (λ (d : Initiator). d.number) same in
    (omega arith, ap (λ (d : Initiator). Some d.row) same)
initiator_from m (x ∷ rows) (s ∷ scripts) (suc n) i q =
    let r = initiator_from (m + 1) rows scripts n i q in
    let k : i.number ≡ (m + 1) + n = r.0 in
    (omega arith, r.1)
