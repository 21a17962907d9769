use Rattle.std.proofs.Common.{length}
use Rattle.view_lists.specs.Lists.{Within}
use Rattle.decoupled_run.specs.Moves.{IsToMake}
use Rattle.decoupled_run.proofs.access.make_plain.Given as goal

abbrev pub invariant-loop-which : goal.invariant-loop-which
invariant-loop-which g l = record {
  ready : IsToMake g.N.Naming.table g.N.Naming.tokens g.N.Naming.frame l.run l.next.transfer l.next.route l.payload l.note l.wallet l.grants;
  knew : Within l.fn.note.knows.known l.note.knows.known;
}

abbrev pub decreases-loop-which : goal.decreases-loop-which
decreases-loop-which g l = length l.grants.held
