use Rattle.std.proofs.Common.{◌≡◌, ◌+◌, sum_by}
use Rattle.std.specs.List.{range_with_len}
use Rattle.token_book.specs.Account.{out_of}
use Rattle.tlm_types.specs.declared.words.ObjectNo.{ObjectNo}
use Rattle.route_plan.specs.Counted.{share_at}
use Rattle.plat_net.specs.Objects.{HasObject}
use Rattle.plat_build.proofs.UnusedLemmas.{AreLeftTo}
use Rattle.plat_build.proofs.unused.retire_from_all.Given as goal

abbrev pub invariant-loop-wallet : goal.invariant-loop-wallet
invariant-loop-wallet g l = record {
  table : l.book.table ≡ g.N.Naming.tokens;
  owner : l.book.owner ≡ l.fn.book.owner;
  out : (o : ObjectNo) → HasObject g.N.Naming.frame.world.platform l.fn.book.owner o → out_of 0 l.book.out + sum_by (λ n. share_at g.N.Naming.frame.world n o) (range_with_len 0 l.wallet-index) ≡ out_of 0 l.fn.book.out;
  wallets : AreLeftTo g.N.Naming.tokens g.N.Naming.frame.world l.fn.book.owner l.wallet-index l.wallets;
}
