use Rattle.std.proofs.Common.{◌≡◌, ℕ, ◌++◌, length}
use mathlib.Core.Option.{some}
use lib.ListN.{get_elem?}
use Rattle.token_book.specs.Purse.{Purse}
use Rattle.plat_build.specs.Unused.{HasTicketsFrom}
use Rattle.plat_build.proofs.kept.wallets_of.Given as goal

abbrev pub invariant-loop-place : goal.invariant-loop-place
invariant-loop-place g l = record {
  whole : l.fn.starts.items ≡ l.yielded ++ l.place-iterator.rest.items;
  count : length l.wallets.items ≡ length l.yielded;
  each : (i : ℕ) (w : Purse) → get_elem? l.wallets.items i ≡ some w → HasTicketsFrom g.N.Naming.tokens g.N.Naming.frame.world 0 i w;
}
