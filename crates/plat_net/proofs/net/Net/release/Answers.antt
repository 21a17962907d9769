use Rattle.std.proofs.Common.{◌≡◌, ℕ, sym, subst}
use Rattle.tlm_model.specs.Plan.{Plan}
use Rattle.plat_net.specs.Net.{HasPool}
use Rattle.plat_net.specs.Places.{own_pool}
use Rattle.cargo_net.specs.Pools.{HasReleased, MayRelease}
use Rattle.plat_net.proofs.Given.{has_pool_of, may_release, pool_numbered}
use Rattle.plat_net.proofs.net.Net.release.Goals as goal

pub pool-pool-requires : goal.pool-pool-requires
pool-pool-requires g c =
    subst (λ (q : Plan). HasPool q.platform c.args.initiator) (sym c.plan.ensures.world) (has_pool_of g.N.Naming.frame.world c.args.initiator c.requires.can.x c.requires.can.pass c.requires.can.access)

pub release-released-requires-clause-may : goal.release-released-requires-clause-may
release-released-requires-clause-may g c =
    let num : c.pool-pool.result.now.number ≡ own_pool g.N.Naming.frame.world c.args.initiator = pool_numbered c.args.self.now g.N.Naming.frame.world c.args.initiator c.pool-pool.result.now c.pool-pool.ensures c.plan.ensures.world in
    subst (λ (n : ℕ). MayRelease g.N.Naming.frame g.N.Naming.tokens n c.args.hold c.args.at c.args.note.knows.known) (sym num) (may_release g.N.Naming.frame g.N.Naming.tokens c.args.note.knows.known c.plan.ensures.frame c.args.initiator c.args.hold c.args.at c.requires.can)

pub returns-clause-released : goal.returns-clause-released
returns-clause-released g c = λ can.
    let num : c.pool-pool.result.now.number ≡ own_pool g.N.Naming.frame.world c.args.initiator = pool_numbered c.args.self.now g.N.Naming.frame.world c.args.initiator c.pool-pool.result.now c.pool-pool.ensures c.plan.ensures.world in
    (subst (λ (n : ℕ). (may : MayRelease g.N.Naming.frame g.N.Naming.tokens n c.args.hold c.args.at c.args.note.knows.known) → HasReleased g.N.Naming.frame may.x may.count c.args.at c.release-released.result.0 c.release-released.result.1.knows.known) num c.release-released.ensures.released) (may_release g.N.Naming.frame g.N.Naming.tokens c.args.note.knows.known c.plan.ensures.frame c.args.initiator c.args.hold c.args.at can)
