use Rattle.plat_core.specs.NetCore.{NetView, history_in}
use Rattle.plat_core.specs.Rounds.{KeepsRoundsOf}
use Rattle.std.proofs.Common.{subst}
use Rattle.plat_core.proofs.net_core.NetCore.made.Goals as goal

pub returns-clause-rounds : goal.returns-clause-rounds
returns-clause-rounds g c = subst (λ (v : NetView). KeepsRoundsOf g.N.Naming.frame.world (history_in g.N.Naming.frame.world v)) c.self.view_is c.self.invariant.rounds.kept
