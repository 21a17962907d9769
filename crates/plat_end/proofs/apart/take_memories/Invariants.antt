use Rattle.std.proofs.Common.{◌≡◌, ◌++◌, length}
use Rattle.std.specs.Prelude.{All}
use Rattle.token_book.specs.Purse.{IsOf}
use Rattle.cargo_model.specs.Known.{objects_of}
use Rattle.plat_end.specs.Room.{Fits}
use Rattle.plat_end.specs.Taking.{IsTaken}
use Rattle.plat_end.proofs.TakenLemmas.{HaveStores}
use Rattle.plat_end.proofs.apart.take_memories.Given as goal

abbrev pub invariant-loop-memory : goal.invariant-loop-memory
invariant-loop-memory g l = record {
  whole : l.fn.memories.items ≡ l.yielded ++ l.memory-iterator.rest.items;
  of : All (IsOf g.N.Naming.tokens) l.wallets;
  taken : IsTaken g.N.Naming.table g.N.Naming.frame l.fn.wallets l.wallets l.apart.logs.items l.apart.seats.items;
  count : length l.apart.seats.items ≡ length l.yielded;
  stores : HaveStores g.N.Naming.frame.world.platform l.apart.logs.items l.apart.stores.items;
  room : Fits (length (objects_of g.N.Naming.frame.world.platform)) (length g.N.Naming.frame.world.platform.memories) l.apart;
}
