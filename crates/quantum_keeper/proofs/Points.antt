-- The points of a quantum.
use Rattle.std.proofs.Common.{ℕ, ◌≡◌, ◌<◌, ◌+◌, ◌*◌, ◌/◌, ◌%◌, min, ap, ◌∙◌, arith}
use Rattle.std.proofs.lemmas.Bool.Decides.{nat_tests}
use Rattle.std.proofs.Math.Nat.{mul-mod_left}
use Rattle.tlm_model.specs.Rounds.{next_point}
use Rattle.tlm_model.specs.Route.{greatest_time}

-- for a quantum that is not 0
pub point_of : (quantum now : ℕ) → 0 < quantum → next_point quantum now ≡ min ((now / quantum + 1) * quantum) greatest_time
point_of quantum now some = grind (arith, nat_tests)

pub point_multiple : (quantum now : ℕ) → 0 < quantum → next_point quantum now < greatest_time → next_point quantum now % quantum ≡ 0
point_multiple quantum now some below =
    let whole : next_point quantum now ≡ (now / quantum + 1) * quantum = omega (arith, point_of quantum now some) in
    ap (λ n. n % quantum) whole ∙ mul-mod_left (now / quantum + 1) quantum
