use Rattle.std.proofs.Common.{◌≡◌, map}
use Rattle.std.specs.List.{range_with_len}
use Rattle.route_plan.specs.Shares.{object_shares, with_scripts}
use Rattle.route_plan.proofs.shares.shares.Given as goal

abbrev pub invariant-loop-place : goal.invariant-loop-place
invariant-loop-place l = l.shares.items ≡ map (object_shares (with_scripts l.routes l.scripts)) (range_with_len 0 l.place)
