use Rattle.std.proofs.Common.{ℕ}
use Rattle.view_lists.specs.Lists.{Within}
use Rattle.shared_object.specs.Steps.{IsNote}
use Rattle.token_book.specs.Purse.{IsOf}
use Rattle.dmi_grants.specs.Made.{IsRoomyFor}
use Rattle.dmi_grants.specs.Revoking.{RevokesMore}
use Rattle.decoupled_run.proofs.steps.close_next.Given as goal

abbrev pub invariant-loop : goal.invariant-loop
invariant-loop g l = record {
  can : (goal.iterator-loop g).can_next l.iterator';
  finite : (goal.iterator-loop g).is_finite l.iterator';
  note : IsNote g.N.Naming.table l.now;
  wallet : IsOf g.N.Naming.tokens l.wallet;
  knew : Within l.fn.note.knows.known l.now.knows.known;
  roomy : (m : ℕ) → IsRoomyFor m l.fn.wallet → IsRoomyFor m l.wallet;
  more : RevokesMore g.N.Naming.frame l.revocation l.fn.note.knows l.now.knows l.fn.wallet l.wallet;
}
