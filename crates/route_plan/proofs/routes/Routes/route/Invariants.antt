use Rattle.std.proofs.Common.{◌≡◌, ◌-◌}
use Rattle.route_plan.specs.Routes.{route_by, bound_walk, walk_on}
use Rattle.route_plan.proofs.routes.Routes.route.Given as goal

abbrev pub invariant-loop-visited : goal.invariant-loop-visited
invariant-loop-visited l = route_by (bound_walk l.self l.initiator l.address) ≡ route_by (walk_on (9 - l._visited) l.self l.step)
