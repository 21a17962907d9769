use Rattle.std.proofs.Common.{◌≡◌, ℕ, ◌<◌, ◌≤◌, ◌==◌, true, length, set, sym, ap, ◌∙◌, subst, refl}
use Rattle.std.specs.Prelude.{◌%◌, MatchOption, Option}
use Rattle.std.specs.List.{All}
use Rattle.std.specs.Option.{option_map}
use Rattle.tlm_types.specs.declared.entry.What.TheVariants.{Release}
use Rattle.token_book.specs.Account.{retired}
use Rattle.flow_model.specs.Events.{Event}
use Rattle.payload_pool.specs.declared.slot.KeptPayload.{KeptPayload}
use Rattle.payload_pool.specs.Slots.{SlotView, slot_at, given_back, reference_number}
use Rattle.payload_pool.specs.Pool.{PoolView, IsPool, changed, event_by}
use Rattle.payload_pool.specs.Inside.{view_of}
use Rattle.payload_pool.specs.Calls.{is_out}
use Rattle.payload_pool.proofs.Keeps.{Holds, holds_at, is_somewhere, read_slot, some_at, brought, kept_release, release_at, last_at}
use Rattle.payload_pool.proofs.pool.Pool.give_back.Goals as goal

pub place_of-place-requires : goal.place_of-place-requires
place_of-place-requires c =
    is_somewhere (view_of c.self.inside) c.self.invariant c.args.token c.name-name.result c.deref.result.now c.deref.ensures.value c.name-name.ensures c.requires.token.1 c.retire_one.ensures.out

pub give_back-freed-requires-clause-number : goal.give_back-freed-requires-clause-number
give_back-freed-requires-clause-number c =
    let v = view_of c.self.inside in
    let t = c.args.token in
    let k = c.place_of-place.result in
    let h = holds_at v c.self.invariant t c.name-name.result k c.deref.result.now c.deref.ensures.value c.name-name.ensures c.place_of-place.ensures c.requires.token.1 c.retire_one.ensures.out in
    let number = c.min-number.ensures ∙ ap (λ (n : ℕ). reference_number n) c.name-name.ensures in
    rw (number, read_slot v c.self.invariant k c.index_mut.result.now h.place.within c.index_mut.ensures.value) (some_at v c.self.invariant t k h)

pub push-requires : goal.push-requires
push-requires c =
    let v = view_of c.self.inside in
    let t = c.args.token in
    let h = holds_at v c.self.invariant t c.name-name.result c.place_of-place.result c.deref.result.now c.deref.ensures.value c.name-name.ensures c.place_of-place.ensures c.requires.token.1 c.retire_one.ensures.out in
    subst (λ (w : PoolView). is_out w t.name ≡ true → length w.log.events < w.log.room) (sym c.self.view_is) c.requires.room h.place.any

-- the slot of the token
held : (c : goal.After-push) → Holds (view_of c.self.inside) c.self.invariant c.args.token c.place_of-place.result
held c =
    holds_at (view_of c.self.inside) c.self.invariant c.args.token c.name-name.result c.place_of-place.result c.deref.result.now c.deref.ensures.value c.name-name.ensures c.place_of-place.ensures c.requires.token.1 c.retire_one.ensures.out

abbrev bytes : (c : goal.After-push) → Option ℕ
bytes c = option_map (λ (b : KeptPayload). b.payload.room) c.args.kept

freed : (c : goal.After-push) → c.give_back-freed.result ≡ (length (slot_at c.self.inside.slots.items c.place_of-place.result).out == 1)
freed c =
    let met = read_slot (view_of c.self.inside) c.self.invariant c.place_of-place.result c.index_mut.result.now (held c).place.within c.index_mut.ensures.value in
    c.give_back-freed.ensures.last ∙ ap (λ (s : SlotView). length s.out == 1) met

-- the pool afterwards
after : (c : goal.After-push) → record { initiator = c.self.inside.initiator; room = c.self.inside.room; slots = set c.self.inside.slots.items c.place_of-place.result c.give_back-freed.new.self; log = c.push.new.self; book = c.retire_one.new.book }
    ≡ changed (view_of c.self.inside) c.place_of-place.result (given_back (reference_number c.args.token.name) (bytes c) (slot_at c.self.inside.slots.items c.place_of-place.result)) (event_by (view_of c.self.inside) c.args.position (slot_at c.self.inside.slots.items c.place_of-place.result).txn c.args.at (Release c.place_of-place.result (length (slot_at c.self.inside.slots.items c.place_of-place.result).out == 1)) (reference_number c.args.token.name)) (retired c.self.inside.book c.args.token)
after c =
    let v = view_of c.self.inside in
    let k = c.place_of-place.result in
    let below = (held c).place.within in
    let seen = read_slot v c.self.invariant k c.index.result.now below c.index.ensures in
    let met = read_slot v c.self.invariant k c.index_mut.result.now below c.index_mut.ensures.value in
    rw (c.push.ensures, c.head.ensures, freed c, c.give_back-freed.ensures.slot, c.txn-txn.ensures, c.retire_one.ensures.book, c.min-number.ensures, c.name-name.ensures, seen, met) refl

pub invariant_of-self : goal.invariant_of-self
invariant_of-self c =
    let v = view_of c.self.inside in
    let part = subst (λ (w : PoolView). MatchOption c.args.kept (c.args.token.name % 32 < 15) (λ (b : KeptPayload). (16 ≤ c.args.token.name % 32) × (b.payload.room ≡ w.room))) (sym c.self.view_is) c.requires.part in
    let past = subst (λ (w : PoolView). is_out w c.args.token.name ≡ true → All (λ (y : Event). y.position < c.args.position) w.log.events) (sym c.self.view_is) c.requires.past (held c).place.any in
    subst IsPool (sym (after c)) (kept_release v c.self.invariant c.args.token c.place_of-place.result c.args.position c.args.at (bytes c) (held c) (brought v c.self.invariant c.args.token.name c.args.kept part) past)

pub returns : goal.returns
returns c =
    let v = view_of c.self.inside in
    let h = held c in
    rw (← c.self.view_is) (record {
      was = h.place.any;
      after = after c ∙ release_at v c.self.invariant c.args.token c.place_of-place.result c.args.position c.args.at (bytes c) h;
      last = freed c ∙ last_at v c.self.invariant c.args.token c.place_of-place.result h;
    })
