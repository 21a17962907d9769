use Rattle.plat_core.specs.NetOutcome.{GoesOnFrom}
use Rattle.plat_core.proofs.net_core.NetCore.run_on.Given as goal

abbrev pub invariant-loop : goal.invariant-loop
invariant-loop g l = record {
  can : (goal.iterator-loop g).can_next l.iterator';
  finite : (goal.iterator-loop g).is_finite l.iterator';
  goes : GoesOnFrom l.initial.self l.self;
}
