use Rattle.std.proofs.Common.{◌≡◌, ◌+◌, ◌++◌, length}
use Rattle.plat_build.specs.Unused.{AreUnused, HaveTicketsFrom}
use Rattle.plat_build.proofs.unused.push_unused.Given as goal

abbrev pub invariant-loop-object : goal.invariant-loop-object
invariant-loop-object g l = record {
  whole : l.fn.objects.items ≡ l.yielded ++ l.object-iterator.rest.items;
  seats_are : AreUnused g.N.Naming.table g.N.Naming.frame l.seats.items;
  count : length l.seats.items ≡ length l.initial.seats.items + length l.yielded;
  wallets : HaveTicketsFrom g.N.Naming.tokens g.N.Naming.frame.world (length l.seats.items) l.wallets;
}
