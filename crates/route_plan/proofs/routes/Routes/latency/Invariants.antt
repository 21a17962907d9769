use Rattle.std.proofs.Common.{◌≡◌, ◌-◌}
use Rattle.route_plan.specs.Routes.{bound_walk, walk_on}
use Rattle.route_plan.proofs.routes.Routes.latency.Given as goal

abbrev pub invariant-loop-visited : goal.invariant-loop-visited
invariant-loop-visited l = (bound_walk l.self l.initiator l.address).latency ≡ (walk_on (9 - l._visited) l.self l.step).latency
