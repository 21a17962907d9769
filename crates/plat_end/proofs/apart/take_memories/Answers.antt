use Rattle.std.proofs.Common.{◌≡◌, refl, ℕ, ◌++◌, List, [], ◌∷◌, length, ap, ◌∙◌, arith}
use Rattle.std.specs.Prelude.{slice_get}
use Rattle.one_history.specs.Held.{Held}
use Rattle.shared_object.specs.Standing.{Numbers}
use Rattle.tlm_types.specs.declared.entry.Content.{Content}
use Rattle.tlm_types.specs.declared.words.ObjectNo.TheVariants.{Memory}
use Rattle.entry_log.specs.Log.{LogView}
use Rattle.tlm_model.specs.Plan.{Plan}
use Rattle.plat_build.proofs.KeptLemmas.{next_is, whole_next}
use Rattle.view_lists.proofs.Places.{at_short}
use Rattle.plat_end.proofs.TakenLemmas.{next_memory, longer_by, next_fits, stores_next, taken_next}
use Rattle.plat_end.proofs.apart.take_memories.Goals as goal

pub memory_part-log-requires-clause-numbers : goal.memory_part-log-requires-clause-numbers
memory_part-log-requires-clause-numbers g c =
    let i = c.loop-memory.invariant in
    let at = next_is c.args.memories.items c.loop-memory.yielded c.next.new.self.rest.items c.loop-memory.memory-iterator.rest.items c.in-Some.memory i.whole c.in-Some.ensures.steps.0 in
    (next_memory g.N.Naming.frame.world c.args.memories.items (length c.loop-memory.yielded) c.in-Some.memory c.requires.memories at).1

pub push_reserved-requires : goal.push_reserved-requires
push_reserved-requires g c =
    let frame = g.N.Naming.frame in
    let i = c.loop-memory.invariant in
    let past = c.loop-memory.yielded in
    let at = next_is c.args.memories.items past c.next.new.self.rest.items c.loop-memory.memory-iterator.rest.items c.in-Some.memory i.whole c.in-Some.ensures.steps.0 in
    let below = at_short c.args.memories.items (length past) c.in-Some.memory at in
    let few = c.requires.memories.count in
    omega (arith, below, few, i.count, i.stores.count, i.taken.logs_left.count, i.room.stores, c.loop-memory.apart.stores.ok.0)

pub add-requires-clause-log : goal.add-requires-clause-log
add-requires-clause-log g c =
    let frame = g.N.Naming.frame in
    let i = c.loop-memory.invariant in
    let past = c.loop-memory.yielded in
    let at = next_is c.args.memories.items past c.next.new.self.rest.items c.loop-memory.memory-iterator.rest.items c.in-Some.memory i.whole c.in-Some.ensures.steps.0 in
    let next = (next_memory frame.world c.args.memories.items (length past) c.in-Some.memory c.requires.memories at).0 in
    let below = next_fits frame.world.platform (length past) Memory c.in-Some.memory next in
    omega (arith, below, i.count, i.taken.logs_left.count, i.room.logs)

pub add-requires-clause-seat : goal.add-requires-clause-seat
add-requires-clause-seat g c =
    let frame = g.N.Naming.frame in
    let i = c.loop-memory.invariant in
    let past = c.loop-memory.yielded in
    let at = next_is c.args.memories.items past c.next.new.self.rest.items c.loop-memory.memory-iterator.rest.items c.in-Some.memory i.whole c.in-Some.ensures.steps.0 in
    let next = (next_memory frame.world c.args.memories.items (length past) c.in-Some.memory c.requires.memories at).0 in
    let below = next_fits frame.world.platform (length past) Memory c.in-Some.memory next in
    omega (arith, below, i.count, i.room.seats)

pub loop-memory-preserved : goal.loop-memory-preserved
loop-memory-preserved g c =
    let table = g.N.Naming.table in
    let frame = g.N.Naming.frame in
    let i = c.loop-memory.invariant in
    let past = c.loop-memory.yielded in
    let memory : Numbers = c.in-Some.memory in
    let at = next_is c.args.memories.items past c.next.new.self.rest.items c.loop-memory.memory-iterator.rest.items memory i.whole c.in-Some.ensures.steps.0 in
    let both = next_memory frame.world c.args.memories.items (length past) memory c.requires.memories at in
    let next = both.0 in
    let log : LogView = c.memory_part-log.result.0 in
    let bytes : List ℕ = c.memory_part-log.result.1 in
    let seat : Held Content Plan = c.memory_part-log.result.2 in
    let logs = c.loop-memory.apart.logs.items in
    let seats = c.loop-memory.apart.seats.items in
    let stores = c.loop-memory.apart.stores.items in
    let more_logs : List LogView = c.add.new.self.logs.items in
    let more_seats : List (Held Content Plan) = c.add.new.self.seats.items in
    let more_stores : List (List ℕ) = c.add.new.self.stores.items in
    let e = c.memory_part-log.ensures in
    let added = c.add.ensures in
    let stores_are : more_stores ≡ stores ++ bytes ∷ [] = ap (λ v. v.items) added.stores ∙ c.push_reserved.ensures.items in
    let same_number : memory.number ≡ memory.own = ap (λ (t : Numbers). t.number) both.1 in
    let place : memory.own ≡ length logs = omega (arith, same_number, next.number, i.count, i.taken.logs_left.count) in
    record {
      whole = whole_next c.args.memories.items past c.next.new.self.rest.items c.loop-memory.memory-iterator.rest.items memory i.whole c.in-Some.ensures.steps.0;
      of = e.of;
      taken = taken_next table frame (length past) Memory memory c.args.wallets.now c.loop-memory.wallets c.memory_part-log.new.wallets logs more_logs seats more_seats log seat next i.count e.left e.paid e.others added.logs added.seats i.taken;
      count = omega (arith, longer_by seats more_seats seat added.seats, i.count, longer_by past (past ++ memory ∷ []) memory refl);
      stores = stores_next frame.world.platform logs more_logs stores more_stores log bytes added.logs stores_are i.stores (λ row there. e.bytes row (ap (λ (k : ℕ). slice_get frame.world.platform.memories k) place ∙ there));
      room = added.room _ _ (record { logs = i.room.logs; stores = omega (arith, i.room.stores, c.push_reserved.ensures.capacity); seats = i.room.seats });
    }
