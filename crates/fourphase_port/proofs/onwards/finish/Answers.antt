use Rattle.std.proofs.Common.{ℕ, sym, subst}
use Rattle.plat_net.specs.Net.{HasPool}
use Rattle.port_moves.proofs.Backs.{goes_free, pool_is_there}
use Rattle.fourphase_port.proofs.onwards.finish.Goals as goal

pub returns-then-live-eq0-clause-port : goal.returns-then-live-eq0-clause-port
returns-then-live-eq0-clause-port g c =
    let e = c.live-live.ensures in
    goes_free g.N.Naming.table g.N.Naming.tokens g.N.Naming.frame c.args.state.now c.args.note c.requires.port c.live-live.result.1 e.note e.knew e.below c.requires.free.0

pub returns-clause-port : goal.returns-clause-port
returns-clause-port g c =
    let e = c.live-live.ensures in
    goes_free g.N.Naming.table g.N.Naming.tokens g.N.Naming.frame c.args.state.now c.args.note c.requires.port c.live-live.result.1 e.note e.knew e.below c.requires.free.0

pub live-live-requires-clause-pool : goal.live-live-requires-clause-pool
live-live-requires-clause-pool g c =
    subst (λ (n : ℕ). HasPool g.N.Naming.frame.world.platform n) (sym c.initiator.ensures)
    (pool_is_there g.N.Naming.table g.N.Naming.tokens g.N.Naming.frame c.args.state.now c.args.note c.requires.port)
