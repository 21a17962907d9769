use Rattle.std.proofs.Common.{arith}
use Rattle.plat_net.proofs.PoolPlaces.{pools-count}
use Rattle.plat_net.proofs.net.Net.kept_by.Goals as goal

pub kept_by_others-requires-3-clause-room : goal.kept_by_others-requires-3-clause-room
kept_by_others-requires-3-clause-room g c =
    let s = c.self.inside in
    omega (arith, pools-count s.plan g.N.Naming.frame.world s.pools.items c.self.invariant.6 c.self.invariant.0, c.args.room.for_pools.1)
