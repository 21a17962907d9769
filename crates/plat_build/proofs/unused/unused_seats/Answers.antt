use Rattle.std.proofs.Common.{◌≡◌, ◌+◌, [], length, refl, ap, arith}
use Rattle.plat_build.proofs.IdleLemmas.{all_objects}
use Rattle.plat_build.proofs.UnusedLemmas.{hops_numbered, memories_numbered, pools_numbered}
use Rattle.plat_build.proofs.unused.unused_seats.Goals as goal

pub push_unused-requires-clause-numbered : goal.push_unused-requires-clause-numbered
push_unused-requires-clause-numbered g c =
    let frame = g.N.Naming.frame in
    memories_numbered frame frame.world (length c.new-seats.result.items) c.args.memories.items refl (ap length c.new-seats.ensures.items) c.requires.memories

pub push_unused-requires-2-clause-numbered : goal.push_unused-requires-2-clause-numbered
push_unused-requires-2-clause-numbered g c =
    let frame = g.N.Naming.frame in
    let count = c.in_ok-push_unused.ensures.count in
    let many = c.requires.memories.count in
    hops_numbered frame frame.world (length c.push_unused.new.seats.items) c.args.hops.items refl (omega (arith, ap length c.new-seats.ensures.items, count, many)) c.requires.hops

pub push_unused-requires-3-clause-numbered : goal.push_unused-requires-3-clause-numbered
push_unused-requires-3-clause-numbered g c =
    let frame = g.N.Naming.frame in
    let count = c.in_ok-push_unused.ensures.count in
    let count_too = c.in_ok-push_unused-2.ensures.count in
    let many = c.requires.memories.count in
    let hops = c.requires.hops.count in
    pools_numbered frame frame.world (length c.push_unused-2.new.seats.items) c.args.pools.items refl
    (omega (arith, ap length c.new-seats.ensures.items, count, count_too, many, hops)) c.requires.pools

pub returns-clause-count : goal.returns-clause-count
returns-clause-count g c =
    let frame = g.N.Naming.frame in
    let counts = all_objects frame.world frame c.args.hops.items c.args.pools.items c.requires.frame c.requires.hops c.requires.pools in
    let a = c.in_ok-push_unused.ensures.count in
    let b = c.in_ok-push_unused-2.ensures.count in
    let d = c.in_ok-push_unused-3.ensures.count in
    let many = c.requires.memories.count in
    omega (arith, ap length c.new-seats.ensures.items, a, b, d, counts, many)
