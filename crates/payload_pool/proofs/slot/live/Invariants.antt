use Rattle.std.proofs.Common.{◌≡◌, ◌≤◌, take}
use Rattle.std.specs.List.{count_by}
use Rattle.payload_pool.specs.Slots.{is_live}
use Rattle.payload_pool.proofs.slot.live.Given as goal

abbrev pub invariant-loop-slot : goal.invariant-loop-slot
invariant-loop-slot l = (l.live ≡ count_by is_live (take l.slot-index l.slots)) × (l.live ≤ l.slot-index)
