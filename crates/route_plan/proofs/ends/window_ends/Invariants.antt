use Rattle.std.proofs.Common.{◌≡◌, map, take}
use Rattle.std.specs.List.{enumerate_from}
use Rattle.route_plan.specs.Routes.{window_ends}
use Rattle.route_plan.proofs.ends.window_ends.Given as goal

abbrev pub invariant-loop-index : goal.invariant-loop-index
invariant-loop-index l = l.ends.items ≡ map (window_ends l.router) (enumerate_from 0 (take l.index l.windows))
