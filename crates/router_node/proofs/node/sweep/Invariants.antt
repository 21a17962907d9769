use Rattle.std.proofs.Common.{◌≡◌}
use Rattle.std.specs.List.{AllByRecursion}
use Rattle.std.specs.Prelude.{vec_capacity}
use Rattle.view_lists.specs.Lists.{Within}
use Rattle.one_history.specs.Lists.{StandBelow}
use Rattle.shared_object.specs.Steps.{IsNote}
use Rattle.router_node.specs.Stages.{IsStage}
use Rattle.router_node.proofs.Skips.{IsSweptOn}
use Rattle.router_node.proofs.node.sweep.Given as goal

abbrev pub invariant-loop-k : goal.invariant-loop-k
invariant-loop-k g l = record {
  note : IsNote g.N.Naming.table l.note;
  knew : Within l.fn.note.knows.known l.note.knows.known;
  below : StandBelow l.note.knows.known l.note.knows.seen;
  held : AllByRecursion (IsStage g.N.Naming.frame g.N.Naming.tokens l.note.knows.known) l.held.items;
  capacity : vec_capacity l.held ≡ vec_capacity l.fn.held;
  swept : IsSweptOn g.N.Naming.frame l.fn.hasty l.fn.what l.fn.held.items l._k l.at l.held.items l.fn.note.knows l.note.knows l.moved;
}
