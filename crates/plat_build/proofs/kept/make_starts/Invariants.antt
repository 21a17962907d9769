use Rattle.std.proofs.Common.{◌≡◌, ◌+◌, ◌++◌, length, map, replicate, true}
use Rattle.std.specs.Prelude.{All, is_some}
use Rattle.plat_build.specs.Kept.{AreStarts, IsBlank}
use Rattle.plat_build.proofs.kept.make_starts.Given as goal

abbrev pub invariant-loop-wallet : goal.invariant-loop-wallet
invariant-loop-wallet g l = record {
  whole : l.fn.wallets.items ≡ l.yielded ++ l.wallet-iterator.rest.items;
  starts_are : AreStarts g.N.Naming.table g.N.Naming.tokens l.plan l.starts.items;
  started_all : map (λ start. is_some start) l.starts.items ≡ replicate (length l.yielded) true;
  count : length l.starts.items ≡ length l.yielded;
  left : All (IsBlank g.N.Naming.table) l.notes.items;
  fewer : length l.notes.items + length l.yielded ≡ length l.initial.notes.items;
}
