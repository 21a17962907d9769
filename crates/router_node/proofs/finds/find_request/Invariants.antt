use Rattle.std.proofs.Common.{◌≡◌, ◌++◌, take}
use Rattle.view_lists.specs.Lists.{Within}
use Rattle.one_history.specs.Lists.{StandBelow}
use Rattle.shared_object.specs.Steps.{IsNote}
use Rattle.node_hops.specs.Looks.{vain_looks}
use Rattle.router_node.proofs.finds.find_request.Given as goal

abbrev pub invariant-loop-hop : goal.invariant-loop-hop
invariant-loop-hop g l = record {
  note : IsNote g.N.Naming.table l.note;
  knew : Within l.fn.note.knows.known l.note.knows.known;
  below : StandBelow l.note.knows.known l.note.knows.seen;
  looks : l.note.knows.looks ≡ l.fn.note.knows.looks ++ vain_looks g.N.Naming.frame.world 1 (take l.hop-index l.hops);
}
