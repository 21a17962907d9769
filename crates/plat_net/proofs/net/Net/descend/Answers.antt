use Rattle.std.proofs.Common.{◌≡◌, ℕ, ◌+◌, ◌<◌, Option, sym, subst, ap, ◌∙◌}
use Rattle.std.specs.Prelude.{IfSome}
use Rattle.tlm_model.specs.Plan.{Plan}
use Rattle.flow_model.specs.Platform.{world_of}
use Rattle.flow_model.specs.World.{row_of}
use Rattle.route_plan.specs.Valid.{hop_count}
use Rattle.cargo_model.specs.Known.{Known}
use Rattle.cargo_model.specs.Travel.{GoesDown, Ready}
use Rattle.cargo_net.specs.Descends.{MayDescend}
use Rattle.plat_net.specs.Net.{HasPool}
use Rattle.plat_net.specs.Places.{own_pool}
use Rattle.plat_net.specs.PoolCalls.{place_above}
use Rattle.plat_net.proofs.Given.{above_below, asked_pool, may_descend, pool_numbered, shape_of}
use Rattle.plat_net.proofs.net.Net.descend.Goals as goal

pub pool-pool-requires : goal.pool-pool-requires
pool-pool-requires g c =
    let can = c.requires.can in
    subst (λ (q : Plan). HasPool q.platform c.args.initiator) (sym c.plan.ensures.world)
    (asked_pool g.N.Naming.frame.world g.N.Naming.tokens (Known g.N.Naming.frame.world.platform c.args.note.knows.known) c.args.initiator c.args.cargo.baton.txn can.pass can.of can.down.asked)

pub place_above-above-requires : goal.place_above-above-requires
place_above-above-requires g c =
    let can = c.requires.can in
    subst (λ (q : Plan). IfSome c.args.above (λ (h : ℕ). h < hop_count q.platform)) (sym c.plan.ensures.world)
    (above_below g.N.Naming.frame.world c.args.cargo.baton.txn can.pass can.hop (row_of (world_of g.N.Naming.frame.world) can.pass can.hop) c.args.above can.down.asked.passes can.down.held.below can.above_is)

pub descend-requires-clause-may : goal.descend-requires-clause-may
descend-requires-clause-may g c =
    let num = pool_numbered c.args.self.now g.N.Naming.frame.world c.args.initiator c.pool-pool.result.now c.pool-pool.ensures c.plan.ensures.world in
    let shape = shape_of c.plan.result.now c.args.self.now g.N.Naming.frame.world c.platform.ensures.valid c.plan.ensures.plan c.plan.ensures.world in
    let above : c.place_above-above.result ≡ place_above g.N.Naming.frame.world c.args.above = c.place_above-above.ensures ∙ ap (λ (q : Plan). place_above q c.args.above) c.plan.ensures.world in
    subst (λ (n : ℕ). MayDescend g.N.Naming.frame g.N.Naming.tokens n c.args.cargo c.place_above-above.result c.args.address c.args.at c.args.note.knows.known) (sym num)
    (subst (λ (a : Option ℕ). MayDescend g.N.Naming.frame g.N.Naming.tokens (own_pool g.N.Naming.frame.world c.args.initiator) c.args.cargo a c.args.address c.args.at c.args.note.knows.known) (sym above)
    (may_descend g.N.Naming.frame g.N.Naming.tokens c.args.note.knows.known c.plan.ensures.frame shape c.args.initiator c.args.cargo c.args.above c.args.address c.args.at c.requires.can))

pub returns-clause-descended : goal.returns-clause-descended
returns-clause-descended g c = λ can.
    let num = pool_numbered c.args.self.now g.N.Naming.frame.world c.args.initiator c.pool-pool.result.now c.pool-pool.ensures c.plan.ensures.world in
    let shape = shape_of c.plan.result.now c.args.self.now g.N.Naming.frame.world c.platform.ensures.valid c.plan.ensures.plan c.plan.ensures.world in
    let above : c.place_above-above.result ≡ place_above g.N.Naming.frame.world c.args.above = c.place_above-above.ensures ∙ ap (λ (q : Plan). place_above q c.args.above) c.plan.ensures.world in
    let first = subst (λ (n : ℕ). (may : MayDescend g.N.Naming.frame g.N.Naming.tokens n c.args.cargo c.place_above-above.result c.args.address c.args.at c.args.note.knows.known) →
    GoesDown g.N.Naming.frame.world g.N.Naming.tokens (Known g.N.Naming.frame.world.platform c.descend.result.note.knows.known) c.args.cargo.baton.txn may.pass Ready (may.hop + 1) c.descend.result.cargo) num c.descend.ensures.descended in
    let second = subst (λ (a : Option ℕ). (may : MayDescend g.N.Naming.frame g.N.Naming.tokens (own_pool g.N.Naming.frame.world c.args.initiator) c.args.cargo a c.args.address c.args.at c.args.note.knows.known) →
    GoesDown g.N.Naming.frame.world g.N.Naming.tokens (Known g.N.Naming.frame.world.platform c.descend.result.note.knows.known) c.args.cargo.baton.txn may.pass Ready (may.hop + 1) c.descend.result.cargo) above first in
    second (may_descend g.N.Naming.frame g.N.Naming.tokens c.args.note.knows.known c.plan.ensures.frame shape c.args.initiator c.args.cargo c.args.above c.args.address c.args.at can)
