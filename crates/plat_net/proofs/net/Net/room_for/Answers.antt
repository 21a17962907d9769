use Rattle.std.proofs.Common.{ap, arith, length}
use Rattle.tlm_model.specs.Plan.{Plan}
use Rattle.route_plan.specs.Valid.{hop_count}
use Rattle.plat_net.proofs.PoolPlaces.{pools-count}
use Rattle.plat_net.proofs.net.Net.room_for.Goals as goal

pub invariant_of-result : goal.invariant_of-result
invariant_of-result g c =
    let s = c.self.inside in
    let kept = c.self.invariant in
    let memories = ap (λ (p : Plan). length p.platform.memories) kept.0 in
    let hops = ap (λ (p : Plan). hop_count p.platform) kept.0 in
    let pools = pools-count s.plan g.N.Naming.frame.world s.pools.items kept.6 kept.0 in
    record {
      for_memories = (c.in_ok-memories.ensures.items, omega (arith, s.memories.ok.0, c.len.ensures, kept.4.count, memories, c.in_ok-memories.ensures.capacity));
      for_hops = (c.in_ok-hops.ensures.items, omega (arith, s.hops.ok.0, c.len-2.ensures, kept.5.count, hops, c.in_ok-hops.ensures.capacity));
      for_pools = (c.in_ok-pools.ensures.items, omega (arith, s.pools.ok.0, c.len-3.ensures, pools, c.in_ok-pools.ensures.capacity));
    }
