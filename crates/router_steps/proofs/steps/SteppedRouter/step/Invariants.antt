use Rattle.std.proofs.Common.{◌≡◌, None}
use Rattle.view_lists.specs.Lists.{Within}
use Rattle.one_history.specs.Lists.{StandBelow}
use Rattle.shared_object.specs.Steps.{IsNote}
use Rattle.router_node.specs.Node.{IsRouter}
use Rattle.router_steps.proofs.steps.SteppedRouter.step.Given as goal

abbrev pub invariant-loop : goal.invariant-loop
invariant-loop g l = record {
  can : (goal.iterator-loop g).can_next l.iterator';
  finite : (goal.iterator-loop g).is_finite l.iterator';
  router : IsRouter g.N.Naming.frame g.N.Naming.tokens l.self.node l.note.knows.known;
  due : l.self.due ≡ None;
  note : IsNote g.N.Naming.table l.note;
  knew : Within l.fn.note.knows.known l.note.knows.known;
  below : StandBelow l.note.knows.known l.note.knows.seen;
  number : l.self.node.router ≡ l.fn.self.node.router;
}
