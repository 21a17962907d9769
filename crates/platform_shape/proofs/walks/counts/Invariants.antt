use Rattle.platform_shape.specs.Walks.{AreCounts}
use Rattle.platform_shape.proofs.walks.counts.Given as goal

abbrev pub invariant-loop-done : goal.invariant-loop-done
invariant-loop-done l = AreCounts l.walks l.done l.platform l.counts.items
