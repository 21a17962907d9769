use Rattle.std.proofs.Common.{◌≡◌, ℕ, ◌+◌, ◌<◌}
use Rattle.std.specs.Prelude.{All}
use mathlib.Core.Option.{some}
use lib.ListN.{get_elem?}
use Rattle.token_book.specs.Account.{out_of}
use Rattle.token_book.specs.Purse.{Purse, IsOf, left_of}
use Rattle.plat_end.specs.Taking.{HaveSameBut, tickets_at}
use Rattle.plat_end.proofs.parts.hand_back_all.Given as goal

abbrev pub invariant-loop-wallet : goal.invariant-loop-wallet
invariant-loop-wallet l = record {
  table : l.book.table ≡ l.fn.book.table;
  owner : l.book.owner ≡ l.fn.book.owner;
  of : All (IsOf l.fn.book.table) l.wallets;
  out : out_of 0 l.book.out + tickets_at l.fn.book.owner l.fn.wallets ≡ out_of 0 l.fn.book.out + tickets_at l.fn.book.owner l.wallets;
  none : (i : ℕ) (w : Purse) → i < l.wallet-index → get_elem? l.wallets i ≡ some w → left_of w l.fn.book.owner ≡ 0;
  others : HaveSameBut l.fn.book.owner l.fn.wallets l.wallets;
}
