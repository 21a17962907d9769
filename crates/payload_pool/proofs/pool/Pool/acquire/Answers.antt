use Rattle.std.proofs.Common.{◌≡◌, ℕ, ◌+◌, ◌-◌, ◌<◌, ◌≤◌, true, length, set, sym, ap, ◌∙◌, subst, refl, arith}
use Rattle.std.specs.Prelude.{◌%◌}
use Rattle.std.specs.List.{All}
use Rattle.tlm_types.specs.declared.entry.What.TheVariants.{Acquire}
use Rattle.token_book.specs.Account.{Account, Slip, out_of, issued, retired}
use Rattle.flow_model.specs.Events.{Event}
use Rattle.payload_pool.specs.Slots.{SlotView, slot_at, acquired_more, acquired_of}
use Rattle.payload_pool.specs.Pool.{PoolView, IsPool, changed, event_by}
use Rattle.payload_pool.specs.Inside.{view_of}
use Rattle.payload_pool.specs.Calls.{is_out}
use Rattle.payload_pool.proofs.Keeps.{Holds, holds_at, is_somewhere, read_slot, may_acquire, few_retired, few_issued, kept_acquire, acquire_at}
use Rattle.payload_pool.proofs.pool.Pool.acquire.Goals as goal

-- what is known of the baton's token: one of it was out
one_own : (t u : Slip) → t ≡ u → (t.amount ≡ 1) × (16 ≤ t.name % 32) → (u.amount ≡ 1) × (16 ≤ u.name % 32)
one_own t u is h = subst (λ (q : Slip). (q.amount ≡ 1) × (16 ≤ q.name % 32)) is h

was_out : (b : Account) (t u : Slip) → t ≡ u → t.amount ≤ out_of t.name b.out → u.amount ≤ out_of u.name b.out
was_out b t u is h = subst (λ (q : Slip). q.amount ≤ out_of q.name b.out) is h

pub place_of-place-requires : goal.place_of-place-requires
place_of-place-requires c =
    let one = one_own c.own.inside.token c.args.baton.own c.own.view_is c.own.invariant in
    let out = was_out c.self.inside.book c.own.inside.token c.args.baton.own c.own.view_is c.retire_one.ensures.out in
    is_somewhere (view_of c.self.inside) c.self.invariant c.args.baton.own c.name-name.result c.deref.result.now c.deref.ensures.value c.name-name.ensures one.0 out

pub push-requires : goal.push-requires
push-requires c =
    let v = view_of c.self.inside in
    let t = c.args.baton.own in
    let one = one_own c.own.inside.token t c.own.view_is c.own.invariant in
    let out = was_out c.self.inside.book c.own.inside.token t c.own.view_is c.retire_one.ensures.out in
    let h = holds_at v c.self.invariant t c.name-name.result c.place_of-place.result c.deref.result.now c.deref.ensures.value c.name-name.ensures c.place_of-place.ensures one.0 out in
    subst (λ (w : PoolView). is_out w t.name ≡ true → length w.log.events < w.log.room) (sym c.self.view_is) c.requires.room h.place.any

pub acquire-requires-clause-few : goal.acquire-requires-clause-few
acquire-requires-clause-few c =
    let v = view_of c.self.inside in
    let t = c.args.baton.own in
    let k = c.place_of-place.result in
    let one = one_own c.own.inside.token t c.own.view_is c.own.invariant in
    let out = was_out c.self.inside.book c.own.inside.token t c.own.view_is c.retire_one.ensures.out in
    let h = holds_at v c.self.invariant t c.name-name.result k c.deref.result.now c.deref.ensures.value c.name-name.ensures c.place_of-place.ensures one.0 out in
    let may = may_acquire v c.self.invariant t k h one.1 c.requires.few in
    subst (λ (s : SlotView). s.acquired < 15) (sym (read_slot v c.self.invariant k c.index_mut.result.now h.place.within c.index_mut.ensures.value)) may.few

pub acquire-requires-clause-room : goal.acquire-requires-clause-room
acquire-requires-clause-room c =
    let v = view_of c.self.inside in
    let t = c.args.baton.own in
    let k = c.place_of-place.result in
    let one = one_own c.own.inside.token t c.own.view_is c.own.invariant in
    let out = was_out c.self.inside.book c.own.inside.token t c.own.view_is c.retire_one.ensures.out in
    let h = holds_at v c.self.invariant t c.name-name.result k c.deref.result.now c.deref.ensures.value c.name-name.ensures c.place_of-place.ensures one.0 out in
    let may = may_acquire v c.self.invariant t k h one.1 c.requires.few in
    subst (λ (s : SlotView). length s.out < 16) (sym (read_slot v c.self.invariant k c.index_mut.result.now h.place.within c.index_mut.ensures.value)) may.room

pub issue_own-own-requires-clause-few : goal.issue_own-own-requires-clause-few
issue_own-own-requires-clause-few c =
    let v = view_of c.self.inside in
    let t = c.args.baton.own in
    let k = c.place_of-place.result in
    let one = one_own c.own.inside.token t c.own.view_is c.own.invariant in
    let out = was_out c.self.inside.book c.own.inside.token t c.own.view_is c.retire_one.ensures.out in
    let h = holds_at v c.self.invariant t c.name-name.result k c.deref.result.now c.deref.ensures.value c.name-name.ensures c.place_of-place.ensures one.0 out in
    let book = c.retire_one.ensures.book ∙ ap (λ (q : Slip). retired c.self.inside.book q) c.own.view_is in
    let few = few_retired v c.self.invariant t k h (c.name-name.result + 1) in
    subst (λ (b : Account). out_of (c.name-name.result + 1) b.out ≤ 1000) (sym book) (omega arith)

pub issue_hold-hold-requires-clause-few : goal.issue_hold-hold-requires-clause-few
issue_hold-hold-requires-clause-few c =
    let v = view_of c.self.inside in
    let t = c.args.baton.own in
    let k = c.place_of-place.result in
    let n = c.name-name.result in
    let one = one_own c.own.inside.token t c.own.view_is c.own.invariant in
    let out = was_out c.self.inside.book c.own.inside.token t c.own.view_is c.retire_one.ensures.out in
    let h = holds_at v c.self.invariant t n k c.deref.result.now c.deref.ensures.value c.name-name.ensures c.place_of-place.ensures one.0 out in
    let book = c.issue_own-own.ensures.book ∙ ap (λ (b : Account). issued b (n + 1) 1) (c.retire_one.ensures.book ∙ ap (λ (q : Slip). retired c.self.inside.book q) c.own.view_is) in
    let few = few_issued v c.self.invariant t k h (n + 1) (n - 16) in
    subst (λ (b : Account). out_of (n - 16) b.out ≤ 1000) (sym book) (omega arith)

-- the slot of the baton
held : (c : goal.After-issue_hold-hold) → Holds (view_of c.self.inside) c.self.invariant c.args.baton.own c.place_of-place.result
held c =
    let v = view_of c.self.inside in
    let t = c.args.baton.own in
    let one = one_own c.own.inside.token t c.own.view_is c.own.invariant in
    let out = was_out c.self.inside.book c.own.inside.token t c.own.view_is c.retire_one.ensures.out in
    holds_at v c.self.invariant t c.name-name.result c.place_of-place.result c.deref.result.now c.deref.ensures.value c.name-name.ensures c.place_of-place.ensures one.0 out

-- the book and the pool afterwards
book : (c : goal.After-issue_hold-hold) → c.retire_one.new.book ≡ retired c.self.inside.book c.args.baton.own
book c = c.retire_one.ensures.book ∙ ap (λ (q : Slip). retired c.self.inside.book q) c.own.view_is

next_book : (c : goal.After-issue_hold-hold) → c.issue_own-own.new.book ≡ issued (retired c.self.inside.book c.args.baton.own) (c.args.baton.own.name + 1) 1
next_book c =
    c.issue_own-own.ensures.book
    ∙ (ap (λ (b : Account). issued b (c.name-name.result + 1) 1) (book c) ∙ ap (λ (n : ℕ). issued (retired c.self.inside.book c.args.baton.own) (n + 1) 1) c.name-name.ensures)

last_book : (c : goal.After-issue_hold-hold) → c.issue_hold-hold.new.book ≡ issued (issued (retired c.self.inside.book c.args.baton.own) (c.args.baton.own.name + 1) 1) (c.args.baton.own.name - 16) 1
last_book c =
    c.issue_hold-hold.ensures.book
    ∙ (ap (λ (b : Account). issued b (c.name-name.result - 16) 1) (next_book c)
    ∙ ap (λ (n : ℕ). issued (issued (retired c.self.inside.book c.args.baton.own) (c.args.baton.own.name + 1) 1) (n - 16) 1) c.name-name.ensures)

after : (c : goal.After-issue_hold-hold) → record { initiator = c.self.inside.initiator; room = c.self.inside.room; slots = set c.self.inside.slots.items c.place_of-place.result c.acquire.new.self; log = c.push.new.self; book = c.issue_hold-hold.new.book }
    ≡ changed (view_of c.self.inside) c.place_of-place.result (acquired_more (slot_at c.self.inside.slots.items c.place_of-place.result)) (event_by (view_of c.self.inside) c.args.position (slot_at c.self.inside.slots.items c.place_of-place.result).txn c.args.at (Acquire c.place_of-place.result) (acquired_of c.args.baton.own.name)) (issued (issued (retired c.self.inside.book c.args.baton.own) (c.args.baton.own.name + 1) 1) (c.args.baton.own.name - 16) 1)
after c =
    let v = view_of c.self.inside in
    let k = c.place_of-place.result in
    let below = (held c).place.within in
    let seen = read_slot v c.self.invariant k c.index.result.now below c.index.ensures in
    let met = read_slot v c.self.invariant k c.index_mut.result.now below c.index_mut.ensures.value in
    rw (c.acquire.ensures, c.push.ensures, c.head-head.ensures, c.txn.ensures, last_book c, c.name-name.ensures, seen, met) refl

pub invariant_of-self : goal.invariant_of-self
invariant_of-self c =
    let one = one_own c.own.inside.token c.args.baton.own c.own.view_is c.own.invariant in
    let past = subst (λ (w : PoolView). is_out w c.args.baton.own.name ≡ true → All (λ (y : Event). y.position < c.args.position) w.log.events) (sym c.self.view_is) c.requires.past (held c).place.any in
    subst IsPool (sym (after c)) (kept_acquire (view_of c.self.inside) c.self.invariant c.args.baton.own c.place_of-place.result c.args.position c.args.at (held c) one.1 c.requires.few past)

pub returns : goal.returns
returns c =
    let v = view_of c.self.inside in
    let h = held c in
    rw (← c.self.view_is) (record {
      was = h.place.any;
      after = after c ∙ acquire_at v c.self.invariant c.args.baton.own c.place_of-place.result c.args.position c.args.at h;
      baton = rw (c.issue_own-own.ensures.own, book c, c.name-name.ensures) refl;
      held = rw (c.issue_hold-hold.ensures.hold, next_book c, c.name-name.ensures) refl;
    })
