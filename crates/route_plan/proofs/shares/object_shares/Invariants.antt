use Rattle.std.proofs.Common.{◌≡◌, List, map, take, get_or}
use Rattle.route_plan.specs.declared.shares.Share.{Share}
use Rattle.route_plan.specs.Shares.{no_share}
use Rattle.route_plan.proofs.shares.object_shares.Given as goal

abbrev pub invariant-loop-row : goal.invariant-loop-row
invariant-loop-row l = l.shares.items ≡ map (λ (row : List Share). get_or row l.place no_share) (take l.row-index l.rows)
