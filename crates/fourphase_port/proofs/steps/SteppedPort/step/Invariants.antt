use Rattle.fourphase_port.proofs.Stepping.{IsStepping}
use Rattle.fourphase_port.proofs.steps.SteppedPort.step.Given as goal

abbrev pub invariant-loop : goal.invariant-loop
invariant-loop g l = record {
  can : (goal.iterator-loop g).can_next l.iterator';
  finite : (goal.iterator-loop g).is_finite l.iterator';
  stepping : IsStepping g.N.Naming.table g.N.Naming.tokens g.N.Naming.frame l.initial.self l.initial.note l.self l.note l.fetched;
}
