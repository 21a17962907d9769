use Rattle.std.proofs.Common.{◌≡◌, refl, List, [], ◌∷◌, ◌++◌, ◌+◌, length, ◌∙◌, arith}
use Rattle.one_history.specs.Held.{Held}
use Rattle.shared_object.specs.Standing.{Numbers}
use Rattle.tlm_types.specs.declared.entry.Content.{Content}
use Rattle.tlm_types.specs.declared.words.ObjectNo.TheVariants.{Pool}
use Rattle.entry_log.specs.Log.{LogView}
use Rattle.tlm_model.specs.Plan.{Plan}
use Rattle.plat_net.specs.Objects.{pools_start}
use Rattle.plat_build.proofs.KeptLemmas.{next_is, whole_next}
use Rattle.plat_end.proofs.TakenLemmas.{earlier_more, next_pool, longer_by, next_fits, taken_next}
use Rattle.plat_end.proofs.apart.take_pools.Goals as goal

pub pool_part-log-requires-clause-numbers : goal.pool_part-log-requires-clause-numbers
pool_part-log-requires-clause-numbers g c =
    let frame = g.N.Naming.frame in
    let i = c.loop-pool.invariant in
    let at = next_is c.args.pools.items c.loop-pool.yielded c.next.new.self.rest.items c.loop-pool.pool-iterator.rest.items c.in-Some.pool i.whole c.in-Some.ensures.steps.0 in
    (next_pool frame.world c.args.pools.items (length c.loop-pool.yielded) c.in-Some.pool c.requires.pools at).1

pub add-requires-clause-log : goal.add-requires-clause-log
add-requires-clause-log g c =
    let frame = g.N.Naming.frame in
    let i = c.loop-pool.invariant in
    let past = c.loop-pool.yielded in
    let at = next_is c.args.pools.items past c.next.new.self.rest.items c.loop-pool.pool-iterator.rest.items c.in-Some.pool i.whole c.in-Some.ensures.steps.0 in
    let next = (next_pool frame.world c.args.pools.items (length past) c.in-Some.pool c.requires.pools at).0 in
    let below = next_fits frame.world.platform (pools_start frame.world.platform + length past) Pool c.in-Some.pool next in
    omega (arith, below, i.count, i.beside, c.requires.first, i.room.logs)

pub add-requires-clause-seat : goal.add-requires-clause-seat
add-requires-clause-seat g c =
    let frame = g.N.Naming.frame in
    let i = c.loop-pool.invariant in
    let past = c.loop-pool.yielded in
    let at = next_is c.args.pools.items past c.next.new.self.rest.items c.loop-pool.pool-iterator.rest.items c.in-Some.pool i.whole c.in-Some.ensures.steps.0 in
    let next = (next_pool frame.world c.args.pools.items (length past) c.in-Some.pool c.requires.pools at).0 in
    let below = next_fits frame.world.platform (pools_start frame.world.platform + length past) Pool c.in-Some.pool next in
    omega (arith, below, i.count, c.requires.first, i.room.seats)

pub loop-pool-preserved : goal.loop-pool-preserved
loop-pool-preserved g c =
    let table = g.N.Naming.table in
    let frame = g.N.Naming.frame in
    let i = c.loop-pool.invariant in
    let past = c.loop-pool.yielded in
    let pool : Numbers = c.in-Some.pool in
    let at = next_is c.args.pools.items past c.next.new.self.rest.items c.loop-pool.pool-iterator.rest.items pool i.whole c.in-Some.ensures.steps.0 in
    let next = (next_pool frame.world c.args.pools.items (length past) pool c.requires.pools at).0 in
    let log : LogView = c.pool_part-log.result.0 in
    let seat : Held Content Plan = c.pool_part-log.result.1 in
    let logs = c.loop-pool.apart.logs.items in
    let seats = c.loop-pool.apart.seats.items in
    let more_logs : List LogView = c.add.new.self.logs.items in
    let more_seats : List (Held Content Plan) = c.add.new.self.seats.items in
    let e = c.pool_part-log.ensures in
    let added = c.add.ensures in
    let sits : length seats ≡ pools_start frame.world.platform + length past = omega (arith, i.count, c.requires.first) in
    record {
      whole = whole_next c.args.pools.items past c.next.new.self.rest.items c.loop-pool.pool-iterator.rest.items pool i.whole c.in-Some.ensures.steps.0;
      of = e.of;
      taken = λ start first. taken_next table frame (pools_start frame.world.platform + length past) Pool pool start c.loop-pool.wallets c.pool_part-log.new.wallets logs more_logs seats more_seats log seat next sits e.left e.paid e.others added.logs added.seats (i.taken start first);
      count = omega (arith, longer_by seats more_seats seat added.seats, i.count, longer_by past (past ++ pool ∷ []) pool refl);
      beside = omega (arith, longer_by logs more_logs log added.logs, longer_by seats more_seats seat added.seats, i.beside);
      longer = omega (arith, longer_by logs more_logs log added.logs, i.longer);
      earlier = earlier_more c.args.apart.now.logs.items logs more_logs log i.earlier i.longer added.logs;
      stores = added.stores ∙ i.stores;
      room = added.room _ _ i.room;
    }
