use Rattle.std.proofs.Common.{◌≡◌, ℕ, ◌+◌, ◌-◌, length, ap, sym, ◌∙◌, arith}
use Rattle.std.specs.List.{range_with_len}
use Rattle.tlm_types.specs.declared.words.ObjectNo.TheVariants.{Pool}
use Rattle.payload_pool.specs.Pool.{PoolView}
use Rattle.plat_build.proofs.PoolLemmas.{pool_built}
use Rattle.cargo_model.specs.Known.{object_number}
use Rattle.plat_net.proofs.NumberLemmas.{numbers_are}
use Rattle.plat_build.proofs.SupplyLemmas.{book_is, nothing_logged, room_is}
use Rattle.plat_build.proofs.pools.make_pool.Goals as goal

pub new-requires-2-clause-book : goal.new-requires-2-clause-book
new-requires-2-clause-book g c =
    let p = c.args.plan.now in
    let h = c.args.initiator in
    let none : c.entries-entries.result - 0 ≡ c.entries-entries.result = omega arith in
    let room = ap (λ (v : PoolView). v.log.room - length v.log.events) c.in_ok-pool.ensures ∙ (none ∙ c.entries-entries.ensures.shares) in
    book_is g.N.Naming.table g.N.Naming.tokens p g.N.Naming.frame (object_number p.platform (Pool h)) (Pool h) c.args.supply _ 0 c.requires.frame c.requires.supply room (nothing_logged (range_with_len 0 (length p.platform.initiators)))

pub new-requires-2-clause-room : goal.new-requires-2-clause-room
new-requires-2-clause-room g c =
    let p = c.args.plan.now in
    let h = c.args.initiator in
    let none : c.entries-entries.result - 0 ≡ c.entries-entries.result = omega arith in
    room_is p g.N.Naming.frame (object_number p.platform (Pool h)) c.args.supply.book.owner _ (Pool h) c.requires.frame c.requires.supply.book_owner c.requires.there
    (ap (λ (v : PoolView). v.log.room - length v.log.events) c.in_ok-pool.ensures ∙ (none ∙ c.entries-entries.ensures.planned))

pub new-requires-2-clause-built : goal.new-requires-2-clause-built
new-requires-2-clause-built g c =
    pool_built c.args.plan.now g.N.Naming.frame g.N.Naming.table g.N.Naming.tokens c.args.initiator c.args.slots c.entries-entries.result c.args.supply c.in_ok-pool.pool c.requires.frame c.requires.row c.requires.there c.requires.supply c.in_ok-pool.ensures

pub returns : goal.returns
returns g c =
    let p = c.args.plan.now in
    let h = c.args.initiator in
    c.new-2.ensures
    ∙ (numbers_are c.args.supply.book.owner (object_number p.platform (Pool h)) c.in_ok-pool.pool.initiator h (c.requires.supply.book_owner) (ap (λ (v : PoolView). v.initiator) c.in_ok-pool.ensures))
