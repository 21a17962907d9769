use Rattle.std.proofs.Common.{◌≡◌, ℕ, sym, subst}
use Rattle.tlm_model.specs.Plan.{Plan}
use Rattle.plat_net.specs.Net.{HasPool}
use Rattle.plat_net.specs.Places.{own_pool}
use Rattle.cargo_model.specs.Known.{Known}
use Rattle.cargo_model.specs.Travel.{GoesDown, Ready}
use Rattle.cargo_net.specs.Starts.{MayStart}
use Rattle.plat_net.proofs.Given.{asked_pool, may_start, pool_numbered, shape_of}
use Rattle.plat_net.proofs.net.Net.start.Goals as goal

pub pool-pool-requires : goal.pool-pool-requires
pool-pool-requires g c =
    subst (λ (q : Plan). HasPool q.platform c.args.initiator) (sym c.plan.ensures.world) (asked_pool g.N.Naming.frame.world g.N.Naming.tokens (Known g.N.Naming.frame.world.platform c.args.note.knows.known) c.args.initiator c.args.baton.txn c.requires.can.pass c.requires.can.of c.requires.can.asked)

pub start-requires-clause-may : goal.start-requires-clause-may
start-requires-clause-may g c =
    let num : c.pool-pool.result.now.number ≡ own_pool g.N.Naming.frame.world c.args.initiator = pool_numbered c.args.self.now g.N.Naming.frame.world c.args.initiator c.pool-pool.result.now c.pool-pool.ensures c.plan.ensures.world in
    let shape = shape_of c.plan.result.now c.args.self.now g.N.Naming.frame.world c.platform.ensures.valid c.plan.ensures.plan c.plan.ensures.world in
    subst (λ (n : ℕ). MayStart g.N.Naming.frame g.N.Naming.tokens n c.args.baton c.args.at c.args.note.knows.known) (sym num) (may_start g.N.Naming.frame g.N.Naming.tokens c.args.note.knows.known c.plan.ensures.frame shape c.args.initiator c.args.baton c.args.at c.requires.can)

pub returns-clause-started : goal.returns-clause-started
returns-clause-started g c = λ can.
    let num : c.pool-pool.result.now.number ≡ own_pool g.N.Naming.frame.world c.args.initiator = pool_numbered c.args.self.now g.N.Naming.frame.world c.args.initiator c.pool-pool.result.now c.pool-pool.ensures c.plan.ensures.world in
    let shape = shape_of c.plan.result.now c.args.self.now g.N.Naming.frame.world c.platform.ensures.valid c.plan.ensures.plan c.plan.ensures.world in
    (subst (λ (n : ℕ). (may : MayStart g.N.Naming.frame g.N.Naming.tokens n c.args.baton c.args.at c.args.note.knows.known) → GoesDown g.N.Naming.frame.world g.N.Naming.tokens (Known g.N.Naming.frame.world.platform c.start.result.1.knows.known) c.args.baton.txn may.pass Ready 0 c.start.result.0) num c.start.ensures.started) (may_start g.N.Naming.frame g.N.Naming.tokens c.args.note.knows.known c.plan.ensures.frame shape c.args.initiator c.args.baton c.args.at can)
