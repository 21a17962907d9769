use Rattle.std.proofs.Common.{arith}
use Rattle.plat_build.proofs.SupplyLemmas.{supplies_begin}
use Rattle.plat_build.proofs.supplies.Supplies.new.Goals as goal

pub invariant_of-result : goal.invariant_of-result
invariant_of-result g c =
    supplies_begin g.N.Naming.table g.N.Naming.tokens g.N.Naming.frame c.args.seats.items c.args.books.items c.split_off.new.self.items c.in_ok-seconds.seconds.items c.args.wallets.items c.len.result
    c.requires.seats c.requires.books c.requires.count c.requires.twice c.requires.few c.requires.wallets (omega (arith, c.len.ensures, c.args.seats.ok.0)) c.in_ok-seconds.ensures.items c.in_ok-seconds.ensures.tail
