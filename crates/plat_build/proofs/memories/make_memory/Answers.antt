use Rattle.std.proofs.Common.{◌≡◌, ℕ, ◌-◌, ◌<◌, length, ap, sym, ◌∙◌, arith}
use Rattle.one_history.specs.Moves.{fresh}
use Rattle.tlm_model.specs.declared.platform.MemoryRow.{MemoryRow}
use Rattle.tlm_types.specs.declared.words.ObjectNo.TheVariants.{Memory}
use Rattle.region_object.specs.Region.{LoggedMemory}
use Rattle.plat_net.proofs.Lookups.{some_below}
use Rattle.plat_build.proofs.MemoryLemmas.{built_for}
use Rattle.plat_net.proofs.NumberLemmas.{memory_there, numbers_are}
use Rattle.plat_build.proofs.SupplyLemmas.{book_is, room_is}
use Rattle.plat_build.proofs.memories.make_memory.Goals as goal

pub new-requires-2-clause-seat : goal.new-requires-2-clause-seat
new-requires-2-clause-seat g c = let s = c.requires.supply in (s.seat_of, s.seat_knows ∙ ap (fresh g.N.Naming.frame) (sym s.book_owner))

pub new-requires-2-clause-book : goal.new-requires-2-clause-book
new-requires-2-clause-book g c =
    let m = c.args.number in
    let is = c.in_ok-region.ensures in
    let none : c.entries-entries.result - 0 ≡ c.entries-entries.result = omega arith in
    let room = ap (λ (r : LoggedMemory). r.log.room - length r.log.entries) is ∙ (none ∙ c.entries-entries.ensures.shares) in
    let bytes = ap (λ (r : LoggedMemory). r.log.room_bytes) is ∙ c.logged-logged.ensures.shares in
    book_is g.N.Naming.table g.N.Naming.tokens c.args.plan.now g.N.Naming.frame m (Memory m) c.args.supply _ _ c.requires.frame c.requires.supply room (omega (arith, bytes))

pub new-requires-2-clause-room : goal.new-requires-2-clause-room
new-requires-2-clause-room g c =
    let p = c.args.plan.now in
    let m = c.args.number in
    let below : m < length p.platform.memories = some_below (λ (row : MemoryRow). c.args.traits ≡ row.traits) p.platform.memories m c.requires.row in
    let none : c.entries-entries.result - 0 ≡ c.entries-entries.result = omega arith in
    room_is p g.N.Naming.frame m c.args.supply.book.owner _ (Memory m) c.requires.frame c.requires.supply.book_owner (memory_there p.platform m below)
    (ap (λ (r : LoggedMemory). r.log.room - length r.log.entries) c.in_ok-region.ensures ∙ (none ∙ c.entries-entries.ensures.planned))

pub new-requires-2-clause-built : goal.new-requires-2-clause-built
new-requires-2-clause-built g c =
    built_for c.args.plan.now g.N.Naming.frame g.N.Naming.tokens c.args.number c.args.supply.book.owner c.entries-entries.result c.logged-logged.result c.args.first_gate c.args.traits c.in_ok-region.region c.requires.frame c.requires.supply.book_owner
    c.in_ok-region.ensures c.requires.row c.requires.gates

pub returns : goal.returns
returns g c =
    c.new-2.ensures
    ∙ (numbers_are c.args.supply.book.owner c.args.number c.in_ok-region.region.number c.args.number c.requires.supply.book_owner (ap (λ (r : LoggedMemory). r.number) c.in_ok-region.ensures))
