use Rattle.std.proofs.Common.{◌≡◌, refl, List, [], ◌∷◌, ◌++◌, ◌+◌, length, ◌∙◌, arith}
use Rattle.one_history.specs.Held.{Held}
use Rattle.shared_object.specs.Standing.{Numbers}
use Rattle.tlm_types.specs.declared.entry.Content.{Content}
use Rattle.tlm_types.specs.declared.words.ObjectNo.TheVariants.{Hop}
use Rattle.entry_log.specs.Log.{LogView}
use Rattle.tlm_model.specs.Plan.{Plan}
use Rattle.plat_build.proofs.KeptLemmas.{next_is, whole_next}
use Rattle.plat_end.proofs.TakenLemmas.{earlier_more, next_hop, longer_by, next_fits, taken_next}
use Rattle.plat_end.proofs.apart.take_hops.Goals as goal

pub hop_part-log-requires-clause-numbers : goal.hop_part-log-requires-clause-numbers
hop_part-log-requires-clause-numbers g c =
    let frame = g.N.Naming.frame in
    let i = c.loop-hop.invariant in
    let at = next_is c.args.hops.items c.loop-hop.yielded c.next.new.self.rest.items c.loop-hop.hop-iterator.rest.items c.in-Some.hop i.whole c.in-Some.ensures.steps.0 in
    (next_hop frame.world.platform c.args.hops.items (length c.loop-hop.yielded) c.in-Some.hop c.requires.hops at).1

pub add-requires-clause-log : goal.add-requires-clause-log
add-requires-clause-log g c =
    let frame = g.N.Naming.frame in
    let i = c.loop-hop.invariant in
    let past = c.loop-hop.yielded in
    let at = next_is c.args.hops.items past c.next.new.self.rest.items c.loop-hop.hop-iterator.rest.items c.in-Some.hop i.whole c.in-Some.ensures.steps.0 in
    let next = (next_hop frame.world.platform c.args.hops.items (length past) c.in-Some.hop c.requires.hops at).0 in
    let below = next_fits frame.world.platform (length frame.world.platform.memories + length past) Hop c.in-Some.hop next in
    omega (arith, below, i.count, i.beside, c.requires.first, i.room.logs)

pub add-requires-clause-seat : goal.add-requires-clause-seat
add-requires-clause-seat g c =
    let frame = g.N.Naming.frame in
    let i = c.loop-hop.invariant in
    let past = c.loop-hop.yielded in
    let at = next_is c.args.hops.items past c.next.new.self.rest.items c.loop-hop.hop-iterator.rest.items c.in-Some.hop i.whole c.in-Some.ensures.steps.0 in
    let next = (next_hop frame.world.platform c.args.hops.items (length past) c.in-Some.hop c.requires.hops at).0 in
    let below = next_fits frame.world.platform (length frame.world.platform.memories + length past) Hop c.in-Some.hop next in
    omega (arith, below, i.count, c.requires.first, i.room.seats)

pub loop-hop-preserved : goal.loop-hop-preserved
loop-hop-preserved g c =
    let table = g.N.Naming.table in
    let frame = g.N.Naming.frame in
    let i = c.loop-hop.invariant in
    let past = c.loop-hop.yielded in
    let hop : Numbers = c.in-Some.hop in
    let at = next_is c.args.hops.items past c.next.new.self.rest.items c.loop-hop.hop-iterator.rest.items hop i.whole c.in-Some.ensures.steps.0 in
    let next = (next_hop frame.world.platform c.args.hops.items (length past) hop c.requires.hops at).0 in
    let log : LogView = c.hop_part-log.result.0 in
    let seat : Held Content Plan = c.hop_part-log.result.1 in
    let logs = c.loop-hop.apart.logs.items in
    let seats = c.loop-hop.apart.seats.items in
    let more_logs : List LogView = c.add.new.self.logs.items in
    let more_seats : List (Held Content Plan) = c.add.new.self.seats.items in
    let e = c.hop_part-log.ensures in
    let added = c.add.ensures in
    let sits : length seats ≡ length frame.world.platform.memories + length past = omega (arith, i.count, c.requires.first) in
    record {
      whole = whole_next c.args.hops.items past c.next.new.self.rest.items c.loop-hop.hop-iterator.rest.items hop i.whole c.in-Some.ensures.steps.0;
      of = e.of;
      taken = λ start first. taken_next table frame (length frame.world.platform.memories + length past) Hop hop start c.loop-hop.wallets c.hop_part-log.new.wallets logs more_logs seats more_seats log seat next sits e.left e.paid e.others added.logs added.seats (i.taken start first);
      count = omega (arith, longer_by seats more_seats seat added.seats, i.count, longer_by past (past ++ hop ∷ []) hop refl);
      beside = omega (arith, longer_by logs more_logs log added.logs, longer_by seats more_seats seat added.seats, i.beside);
      longer = omega (arith, longer_by logs more_logs log added.logs, i.longer);
      earlier = earlier_more c.args.apart.now.logs.items logs more_logs log i.earlier i.longer added.logs;
      stores = added.stores ∙ i.stores;
      room = added.room _ _ i.room;
    }
