use Rattle.std.proofs.Common.{◌≡◌, map, take}
use Rattle.tlm_model.specs.declared.platform.MemoryRow.{MemoryRow}
use Rattle.tlm_model.specs.Store.{zeros}
use Rattle.store_replay.proofs.replay.OpeningStores.of.Given as goal

abbrev pub invariant-loop-row : goal.invariant-loop-row
invariant-loop-row l = l.stores.items ≡ map (λ (row : MemoryRow). zeros row.traits.size) (take l.row-index l.platform.memories)
