use Rattle.std.proofs.Common.{◌≡◌, ℕ, ◌+◌, ◌-◌, length, ap, sym, ◌∙◌, arith}
use Rattle.std.specs.List.{range_with_len}
use Rattle.tlm_types.specs.declared.words.ObjectNo.TheVariants.{Hop}
use Rattle.hop_object.specs.View.{HopView}
use Rattle.cargo_model.specs.declared.cargo.Cargo.{Cargo}
use Rattle.plat_build.proofs.HopLemmas.{hop_built}
use Rattle.cargo_model.specs.Known.{object_number}
use Rattle.plat_net.proofs.NumberLemmas.{hop_number, hop_there, numbers_are}
use Rattle.plat_build.proofs.SupplyLemmas.{book_is, nothing_logged, room_is}
use Rattle.plat_build.proofs.hops.make_hop.Goals as goal

pub new-requires-2-clause-book : goal.new-requires-2-clause-book
new-requires-2-clause-book g c =
    let p = c.args.plan.now in
    let h = c.args.number in
    let none : c.entries-entries.result - 0 ≡ c.entries-entries.result = omega arith in
    let room = ap (λ (v : HopView Cargo). v.log.room - length v.log.events) c.in_ok-hop.ensures ∙ (none ∙ c.entries-entries.ensures.shares) in
    book_is g.N.Naming.table g.N.Naming.tokens p g.N.Naming.frame (length p.platform.memories + h) (Hop h) c.args.supply _ 0 c.requires.frame c.requires.supply room (nothing_logged (range_with_len 0 (length p.platform.initiators)))

pub new-requires-2-clause-room : goal.new-requires-2-clause-room
new-requires-2-clause-room g c =
    let p = c.args.plan.now in
    let h = c.args.number in
    let none : c.entries-entries.result - 0 ≡ c.entries-entries.result = omega arith in
    room_is p g.N.Naming.frame (length p.platform.memories + h) c.args.supply.book.owner _ (Hop h) c.requires.frame c.requires.supply.book_owner (hop_there p.platform h c.requires.next.below)
    (ap (λ (v : HopView Cargo). v.log.room - length v.log.events) c.in_ok-hop.ensures ∙ (none ∙ c.entries-entries.ensures.planned))

pub new-requires-2-clause-built : goal.new-requires-2-clause-built
new-requires-2-clause-built g c =
    hop_built c.args.plan.now g.N.Naming.frame g.N.Naming.table g.N.Naming.tokens c.args.number c.entries-entries.result c.args.resp c.args.to c.traits_to-traits.result c.args.supply c.in_ok-hop.hop c.requires.frame c.requires.next c.requires.supply c.traits_to-traits.ensures c.in_ok-hop.ensures

pub returns : goal.returns
returns g c =
    let p = c.args.plan.now in
    let h = c.args.number in
    c.new-2.ensures
    ∙ (numbers_are c.args.supply.book.owner (object_number p.platform (Hop h)) c.in_ok-hop.hop.number h (c.requires.supply.book_owner ∙ sym (hop_number p.platform h c.requires.next.below)) (ap (λ (v : HopView Cargo). v.number) c.in_ok-hop.ensures))
