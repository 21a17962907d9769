use Rattle.std.proofs.Common.{◌≡◌, ℕ, length}
use mathlib.Core.Option.{some}
use lib.ListN.{get_elem?}
use Rattle.token_book.specs.Purse.{Purse}
use Rattle.plat_build.specs.Tickets.{IsStocked}
use Rattle.plat_build.proofs.wallets.empty_wallets.Given as goal

abbrev pub invariant-loop-initiator : goal.invariant-loop-initiator
invariant-loop-initiator l = record {
  count : length l.wallets.items ≡ l._initiator;
  each : (i : ℕ) (w : Purse) → get_elem? l.wallets.items i ≡ some w → IsStocked l.tickets l.plan 0 i w;
}
