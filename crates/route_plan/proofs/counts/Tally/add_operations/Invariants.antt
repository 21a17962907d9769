use Rattle.std.proofs.Common.{ℕ, ◌*◌, take}
use Rattle.route_plan.specs.Counted.{Counted, counted_in}
use Rattle.route_plan.specs.Counts.{AreMore}
use Rattle.route_plan.proofs.counts.Tally.add_operations.Given as goal

abbrev pub invariant-loop-operation : goal.invariant-loop-operation
invariant-loop-operation l =
    AreMore (λ (c : Counted) (m : ℕ). counted_in c l.self.routes.now l.self.initiator m (take l.operation-index l.operations) * l.times) l.initial.counts l.counts
