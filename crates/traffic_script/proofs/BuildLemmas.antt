-- What a builder has so far.
use Rattle.std.proofs.Common.{◌≡◌, ℕ, ◌+◌, ◌-◌, ◌*◌, List, [], ◌∷◌, ◌++◌, length, Option, Some, None, refl, ap, arith, length-append, append_assoc, append-nil}
use Rattle.tlm_model.specs.declared.operation.Operation.{Operation}
use Rattle.traffic_script.specs.declared.builder.Repeat.{Repeat}
use Rattle.traffic_script.specs.Drafts.{Draft, count_of, added_in}
use Rattle.traffic_script.specs.Pieces.{repeated}
use Rattle.traffic_script.proofs.DraftLemmas.{length-repeated}
use Rattle.traffic_script.specs.Builds.{draft_of}

-- one more operation
pub added_in-draft_of : (before last : List Operation) (r : Option Repeat) (op : Operation) → added_in (draft_of before last r).before (draft_of before last r).block op ≡ draft_of before (last ++ op ∷ []) r
added_in-draft_of before last None op = ap (λ (ops : List Operation). let d : Draft = record { before = ops; block = None } in d) (append_assoc before last (op ∷ []))
added_in-draft_of before last (Some r) op = refl

-- the number of all operations
pub count_of-draft_of : (before last : List Operation) (r : Option Repeat) → count_of (draft_of before last r) ≡ length before + length last
count_of-draft_of before last None = omega (arith, length-append before last)
count_of-draft_of before last (Some r) = refl

-- the number of all operations after the end of a repeat
pub ended_count : (before last after none : List Operation) (count n times : ℕ) → count ≡ length before + length last → n ≡ length last → after ≡ before ++ repeated times last → none ≡ [] → (count - n) + times * n ≡ length (after ++ none) + 0
ended_count before last after none count n times counted same e empty =
    let sum : (count - n) + times * n ≡ length (before ++ repeated times last) + 0 = rw same (omega (arith, counted, length-append before (repeated times last), length-repeated times last)) in
    rw (e, empty, append-nil (before ++ repeated times last)) sum
