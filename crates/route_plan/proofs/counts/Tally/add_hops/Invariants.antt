use Rattle.std.proofs.Common.{◌≡◌, ◌+◌, ◌-◌, ◌∷◌, length}
use Rattle.route_plan.specs.Routes.{bound_walk, walk_on}
use Rattle.route_plan.proofs.CountLemmas.{AreLeft, hops_add}
use Rattle.route_plan.proofs.counts.Tally.add_hops.Given as goal

abbrev pub invariant-loop-passed : goal.invariant-loop-passed
invariant-loop-passed l = record {
  count : length (bound_walk l.self.routes.now l.self.initiator l.address).hops ≡ l._passed + length (l.step.hop ∷ (walk_on (9 - l._passed) l.self.routes.now l.step).hops);
  left :
      AreLeft (hops_add l.self.routes.now l.self.initiator l.times (l.step.hop ∷ (walk_on (9 - l._passed) l.self.routes.now l.step).hops))
      (hops_add l.self.routes.now l.self.initiator l.times (bound_walk l.self.routes.now l.self.initiator l.address).hops) l.initial.counts l.counts;
}
