use Rattle.std.proofs.Common.{◌≡◌, take, sum_by}
use Rattle.route_plan.specs.Counts.{capped}
use Rattle.route_plan.specs.Shares.{logged_in}
use Rattle.route_plan.proofs.shares.logged_in_all.Given as goal

abbrev pub invariant-loop-of_object : goal.invariant-loop-of_object
invariant-loop-of_object l = l.sum ≡ capped (sum_by logged_in (take l.of_object-index l.shares))
