use Rattle.std.proofs.Common.{ℕ}
use Rattle.shared_object.specs.Steps.{IsNote}
use Rattle.token_book.specs.Purse.{IsOf}
use Rattle.dmi_grants.specs.Made.{IsRoomyFor}
use Rattle.dmi_grants.specs.Revoking.{IsRevoking}
use Rattle.dmi_grants.proofs.invalidation.invalidate.Given as goal

abbrev pub invariant-loop : goal.invariant-loop
invariant-loop g l = record {
  can : (goal.iterator-loop g).can_next l.iterator';
  finite : (goal.iterator-loop g).is_finite l.iterator';
  note : IsNote g.N.Naming.table l.now;
  wallet : IsOf g.N.Naming.tokens l.wallet;
  room : IsRoomyFor l.revocation.memory l.wallet;
  rooms : (m : ℕ) → IsRoomyFor m l.fn.wallet → IsRoomyFor m l.wallet;
  revoking : IsRevoking g.N.Naming.frame l.revocation l.fn.note.knows l.now.knows l.fn.wallet l.wallet;
}
