use Rattle.std.proofs.Common.{take}
use Rattle.plat_core.specs.NetEnds.{AreEndsOf}
use Rattle.plat_core.proofs.net_core.ends_of.Given as goal

abbrev pub invariant-loop-initiator : goal.invariant-loop-initiator
invariant-loop-initiator l = AreEndsOf (take l.initiator-index l.initiators) l.ends.items
