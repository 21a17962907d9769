use Rattle.std.proofs.Common.{◌≡◌, ℕ, map}
use Rattle.std.specs.List.{range_with_len}
use Rattle.route_plan.specs.Counts.{count_in}
use Rattle.route_plan.specs.Shares.{share_in}
use Rattle.route_plan.proofs.shares.script_shares.Given as goal

abbrev pub invariant-loop-place : goal.invariant-loop-place
invariant-loop-place l =
    l.shares.items ≡ map (λ (k : ℕ). share_in l.routes l.initiator k (count_in l.routes l.initiator l.script k)) (range_with_len 0 l.place)
