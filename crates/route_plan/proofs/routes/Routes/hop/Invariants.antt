use Rattle.std.proofs.Common.{◌≡◌, ◌-◌, ◌≤◌, ◌∷◌, slice_get}
use Rattle.route_plan.specs.Routes.{bound_walk, walk_on}
use Rattle.route_plan.proofs.routes.Routes.hop.Given as goal

abbrev pub invariant-loop-passed : goal.invariant-loop-passed
invariant-loop-passed l = record {
  before : l.passed ≤ l.index;
  rest : slice_get (bound_walk l.self l.initiator l.address).hops l.index ≡ slice_get (l.step.hop ∷ (walk_on (9 - l.passed) l.self l.step).hops) (l.index - l.passed);
}
