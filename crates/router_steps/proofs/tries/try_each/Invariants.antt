use Rattle.std.proofs.Common.{◌≤◌, false, length}
use Rattle.std.specs.List.{AllByRecursion}
use Rattle.std.specs.Prelude.{vec_capacity}
use Rattle.view_lists.specs.Lists.{Within}
use Rattle.one_history.specs.Lists.{StandBelow}
use Rattle.shared_object.specs.Steps.{IsNote}
use Rattle.router_node.specs.Stages.{IsStage}
use Rattle.router_node.proofs.Sweeps.{IsPartSwept}
use Rattle.router_steps.proofs.tries.try_each.Given as goal

abbrev pub invariant-loop-at : goal.invariant-loop-at
invariant-loop-at g l = record {
  note : IsNote g.N.Naming.table l.note;
  knew : Within l.fn.note.knows.known l.note.knows.known;
  below : StandBelow l.note.knows.known l.note.knows.seen;
  held : AllByRecursion (IsStage g.N.Naming.frame g.N.Naming.tokens l.note.knows.known) l.held.items;
  capacity : vec_capacity l.fn.held ≤ vec_capacity l.held;
  few : length l.held.items ≤ length l.fn.held.items;
  swept : IsPartSwept g.N.Naming.frame false l.fn.what l.fn.held.items l.at l.at l.held.items l.fn.note.knows l.note.knows false;
}
