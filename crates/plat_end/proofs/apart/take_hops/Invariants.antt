use Rattle.std.proofs.Common.{◌≡◌, ℕ, ◌+◌, ◌<◌, ◌≤◌, ◌++◌, List, length}
use Rattle.std.specs.Prelude.{All, slice_get}
use Rattle.token_book.specs.Purse.{Purse, IsOf}
use Rattle.cargo_model.specs.Known.{objects_of}
use Rattle.plat_end.specs.Room.{Fits}
use Rattle.plat_end.specs.Taking.{IsTaken}
use Rattle.plat_end.proofs.apart.take_hops.Given as goal

abbrev pub invariant-loop-hop : goal.invariant-loop-hop
invariant-loop-hop g l = record {
  whole : l.fn.hops.items ≡ l.yielded ++ l.hop-iterator.rest.items;
  of : All (IsOf g.N.Naming.tokens) l.wallets;
  taken : (start : List Purse) → IsTaken g.N.Naming.table g.N.Naming.frame start l.fn.wallets l.fn.apart.logs.items l.fn.apart.seats.items → IsTaken g.N.Naming.table g.N.Naming.frame start l.wallets l.apart.logs.items l.apart.seats.items;
  count : length l.apart.seats.items ≡ length l.fn.apart.seats.items + length l.yielded;
  beside : length l.apart.logs.items ≡ length l.apart.seats.items;
  longer : length l.fn.apart.logs.items ≤ length l.apart.logs.items;
  earlier : (k : ℕ) → k < length l.fn.apart.logs.items → slice_get l.apart.logs.items k ≡ slice_get l.fn.apart.logs.items k;
  stores : l.apart.stores ≡ l.fn.apart.stores;
  room : Fits (length (objects_of g.N.Naming.frame.world.platform)) (length g.N.Naming.frame.world.platform.memories) l.apart;
}
