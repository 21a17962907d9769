use Rattle.std.proofs.Common.{◌≡◌, ℕ}
use Rattle.view_lists.specs.Lists.{Within}
use Rattle.one_history.specs.Lists.{StandBelow}
use Rattle.shared_object.specs.Steps.{IsNote}
use Rattle.target_node.specs.Node.{IsTarget, TakesSome}
use Rattle.target_node.proofs.node.TargetNode.step.Given as goal

abbrev pub invariant-loop : goal.invariant-loop
invariant-loop g l = record {
  can : (goal.iterator-loop g).can_next l.iterator';
  finite : (goal.iterator-loop g).is_finite l.iterator';
  target : IsTarget g.N.Naming.frame g.N.Naming.tokens l.self l.note.knows.known;
  note : IsNote g.N.Naming.table l.note;
  below : StandBelow l.note.knows.known l.note.knows.seen;
  knew : Within l.initial.note.knows.known l.note.knows.known;
  same : l.self.memory ≡ l.initial.self.memory;
  taken : (n : ℕ) × TakesSome g.N.Naming.frame g.N.Naming.tokens n l.initial.self l.self l.initial.note.knows l.note.knows;
}
