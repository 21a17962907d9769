use Rattle.view_lists.specs.Lists.{Within}
use Rattle.shared_object.specs.Steps.{IsNote}
use Rattle.plat_core.proofs.net_core.see.Given as goal

abbrev pub invariant-loop : goal.invariant-loop
invariant-loop g l = record {
  can : (goal.iterator-loop g).can_next l.iterator';
  finite : (goal.iterator-loop g).is_finite l.iterator';
  note : IsNote g.N.Naming.table l.note;
  knew : Within l.initial.note.knows.known l.note.knows.known;
}
