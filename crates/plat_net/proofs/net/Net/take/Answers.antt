use Rattle.std.proofs.Common.{◌≡◌, ℕ, sym, subst}
use Rattle.tlm_model.specs.Plan.{Plan}
use Rattle.plat_net.specs.Net.{HasPool}
use Rattle.plat_net.specs.Places.{own_pool}
use Rattle.cargo_net.specs.Pools.{MayTake}
use Rattle.plat_net.proofs.Given.{has_pool_of, may_take, pool_numbered}
use Rattle.plat_net.proofs.net.Net.take.Goals as goal

pub pool-pool-requires : goal.pool-pool-requires
pool-pool-requires g c =
    subst (λ (q : Plan). HasPool q.platform c.args.initiator) (sym c.plan.ensures.world) (has_pool_of g.N.Naming.frame.world c.args.initiator c.args.txn c.requires.can.pass c.requires.can.access)

pub take-taken-requires-clause-may : goal.take-taken-requires-clause-may
take-taken-requires-clause-may g c =
    let num : c.pool-pool.result.now.number ≡ own_pool g.N.Naming.frame.world c.args.initiator = pool_numbered c.args.self.now g.N.Naming.frame.world c.args.initiator c.pool-pool.result.now c.pool-pool.ensures c.plan.ensures.world in
    subst (λ (n : ℕ). MayTake g.N.Naming.frame n c.args.txn) (sym num) (may_take g.N.Naming.frame g.N.Naming.tokens c.args.note.knows.known c.plan.ensures.frame c.args.initiator c.args.txn c.requires.can)
