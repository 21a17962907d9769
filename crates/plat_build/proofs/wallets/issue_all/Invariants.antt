use Rattle.std.proofs.Common.{◌≡◌, ◌≤◌, ◌*◌, sum_by}
use Rattle.std.specs.List.{range_with_len}
use Rattle.token_book.specs.Account.{out_of}
use Rattle.route_plan.specs.Counted.{share_at}
use Rattle.plat_net.specs.Objects.{bytes_at}
use Rattle.plat_build.specs.Tickets.{AreStockedTo}
use Rattle.plat_build.proofs.wallets.issue_all.Given as goal

abbrev pub invariant-loop-index : goal.invariant-loop-index
invariant-loop-index l = record {
  table : l.book.table ≡ l.tickets;
  owner : l.book.owner ≡ l.fn.book.owner;
  tickets_out : out_of 0 l.book.out ≡ sum_by (λ n. share_at l.plan n l.object) (range_with_len 0 l.index);
  bytes_out : out_of 1 l.book.out ≡ sum_by (λ n. bytes_at l.plan n l.object) (range_with_len 0 l.index);
  few : out_of 0 l.book.out ≤ 1000000 * l.index;
  few_bytes : out_of 1 l.book.out ≤ 67108864 * l.index;
  wallets : AreStockedTo l.tickets l.plan l.fn.book.owner l.index l.wallets;
}
