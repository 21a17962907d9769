-- No two objects have one gate.
use Rattle.std.proofs.Common.{◌≡◌, ℕ, zero, suc, ◌+◌, ◌<◌, ◌≤◌, List, [], ◌∷◌, take, sum, refl, ⊎_elim, arith}
use Rattle.std.specs.Prelude.{slice_index_or}
use Rattle.std.proofs.lemmas.Bool.{cases_eq, cases_lt}
use Rattle.std.proofs.lemmas.List.Sums.{sum_by-cons}
use Rattle.one_history.specs.declared.view.Frame.{Frame}
use Rattle.one_history.specs.Gates.{IsGateOf}

no_gates : (a : ℕ) → sum (take a []) ≡ 0
no_gates zero = refl
no_gates (suc a) = refl

-- the gates of an object end where those of a later one begin, or before
gates_before : (l : List ℕ) (a b : ℕ) → a < b → sum (take a l) + slice_index_or l a 0 ≤ sum (take b l)
gates_before [] a b less = let x = no_gates a in let y = no_gates b in omega arith
gates_before (x ∷ xs) a zero less = absurd (omega arith)
gates_before (x ∷ xs) zero (suc b) less = let q = sum_by-cons (λ (y : ℕ). y) x (take b xs) in omega arith
gates_before (x ∷ xs) (suc a) (suc b) less =
    let h = gates_before xs a b (omega arith) in
    omega (arith, sum_by-cons (λ (y : ℕ). y) x (take a xs), sum_by-cons (λ (y : ℕ). y) x (take b xs))

pub gate_owner : {G : Type 0} (key : Frame G) (a b g : ℕ) → IsGateOf key a g → IsGateOf key b g → a ≡ b
gate_owner key a b g x y =
    let x0 = x.0 in
    let x1 = x.1 in
    let y0 = y.0 in
    let y1 = y.1 in
    ⊎_elim
    (λ (same : a ≡ b). same)
    (λ (other : a ≡ b → ⊥). ⊎_elim
    (λ (less : a < b). let q = gates_before key.gates a b less in absurd (omega arith))
    (λ (more : b ≤ a). let q = gates_before key.gates b a (omega arith) in absurd (omega arith))
    (cases_lt a b))
    (cases_eq a b)
