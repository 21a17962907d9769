-- Walks of the initiators of a plan, by their rows.
use Rattle.std.proofs.Common.{◌≡◌, ℕ, zero, suc, ◌+◌, List, [], ◌∷◌, length, slice_get, refl, ap, ◌∙◌, arith}
use Rattle.tlm_model.specs.declared.operation.Operation.{Operation}
use Rattle.tlm_model.specs.declared.platform.InitiatorRow.{InitiatorRow}
use Rattle.tlm_model.specs.declared.platform.Platform.{Platform}
use Rattle.tlm_model.specs.Plan.{Plan, initiators_from}
use Rattle.route_plan.specs.Plans.{walk_at, walk_by}
use Rattle.route_plan.specs.Routes.{bound_walk, row_walk}

walk_from : (n k : ℕ) (rows : List InitiatorRow) (scripts : List (List Operation)) (p : Platform) (a : ℕ) → length scripts ≡ length rows
    → row_walk p (n + k) (slice_get rows k) a ≡ walk_by p (slice_get (initiators_from n rows scripts) k) a
walk_from n k [] scripts p a same = refl
walk_from n k (row ∷ rows) [] p a same = absurd (omega arith)
walk_from n zero (row ∷ rows) (script ∷ scripts) p a same =
    let first : n + 0 ≡ n = omega arith in
    ap (λ (m : ℕ). row_walk p m (slice_get (row ∷ rows) 0) a) first
walk_from n (suc k) (row ∷ rows) (script ∷ scripts) p a same =
    let step : n + suc k ≡ n + 1 + k = omega arith in
    ap (λ (m : ℕ). row_walk p m (slice_get rows k) a) step ∙ walk_from (n + 1) k rows scripts p a (omega arith)

pub walk_of_row : (plan : Plan) (n a : ℕ) → length plan.scripts ≡ length plan.platform.initiators → bound_walk plan.platform n a ≡ walk_at plan n a
walk_of_row plan n a same =
    let place : n ≡ 0 + n = omega arith in
    ap (λ (m : ℕ). row_walk plan.platform m (slice_get plan.platform.initiators n) a) place ∙ walk_from 0 n plan.platform.initiators plan.scripts plan.platform a same
