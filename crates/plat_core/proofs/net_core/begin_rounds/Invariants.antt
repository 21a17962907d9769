use Rattle.plat_core.proofs.NetBegun.{AreLeftOut}
use Rattle.plat_core.proofs.net_core.begin_rounds.Given as goal

abbrev pub invariant-loop-number : goal.invariant-loop-number
invariant-loop-number l = AreLeftOut l.actors l.count l.number l.rounds
