use Rattle.std.proofs.Common.{◌≡◌, ◌++◌, map, take}
use Rattle.std.specs.List.{enumerate_from, flat_map}
use Rattle.route_plan.specs.Routes.{binding_ends, router_ends}
use Rattle.route_plan.proofs.ends.hop_ends.Given as goal

abbrev pub invariant-loop-number : goal.invariant-loop-number
invariant-loop-number l = l.ends.items ≡ map binding_ends (enumerate_from 0 l.platform.initiators) ++ flat_map router_ends (enumerate_from 0 (take l.number l.routers))
