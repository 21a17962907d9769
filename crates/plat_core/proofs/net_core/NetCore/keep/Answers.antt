use Rattle.std.proofs.Common.{subst}
use Rattle.plat_core.specs.NetCore.{IsNetCore, NetView}
use Rattle.plat_core.proofs.net_core.NetCore.keep.Goals as goal

pub returns : goal.returns
returns g c =
    let n = g.N.Naming in
    (c.self.inside.made, subst (λ (v : NetView). IsNetCore n.table n.tokens n.frame v c.self.inside.made) c.self.view_is c.self.invariant)
