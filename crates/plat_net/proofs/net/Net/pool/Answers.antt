use Rattle.std.proofs.Common.{◌≡◌, List, ap, subst, ◌∙◌}
use mathlib.Core.Option.{some}
use lib.ListN.{get_elem?}
use Rattle.shared_object.specs.Standing.{Numbers}
use Rattle.tlm_model.specs.Plan.{Plan}
use Rattle.plat_net.specs.Net.{pool_numbers}
use Rattle.plat_net.proofs.PoolPlaces.{pool_found}
use Rattle.plat_net.proofs.net.Net.pool.Goals as goal

pub pool_of-requires : goal.pool_of-requires
pool_of-requires g c = pool_found c.self.inside.plan c.args.self.now c.self.inside.pools.items c.deref.result.now c.args.initiator c.self.invariant.6 c.self.view_is c.requires c.deref.ensures.value

pub returns : goal.returns
returns g c =
    let has = c.pool_of.ensures.has in
    let at : get_elem? c.self.inside.pools.items has.0 ≡ some c.pool_of.result.now = subst (λ (l : List Numbers). get_elem? l has.0 ≡ some c.pool_of.result.now) c.deref.ensures.value has.1 in
    c.self.invariant.6.each has.0 c.pool_of.result.now at ∙ (ap (pool_numbers c.self.inside.plan.platform) c.pool_of.ensures.own ∙ ap (λ (p : Plan). pool_numbers p.platform c.args.initiator) c.self.view_is)
