use Rattle.std.proofs.Common.{◌≡◌, ◌<◌, ◌*◌, ◌+◌, true, false, length, set, sym, ap, ◌∙◌, subst, refl, arith}
use Rattle.std.specs.Prelude.{IsSome}
use Rattle.std.specs.List.{All}
use Rattle.token_book.specs.Account.{issued}
use Rattle.tlm_types.specs.declared.entry.What.TheVariants.{Take}
use Rattle.generic_payload.specs.Payload.{new_payload}
use Rattle.flow_model.specs.Events.{Event}
use Rattle.payload_pool.specs.Slots.{SlotView, is_free, taken_slot, name_of}
use Rattle.payload_pool.specs.Pool.{PoolView, IsPool, changed, event_by, has_free}
use Rattle.payload_pool.specs.Inside.{view_of}
use Rattle.payload_pool.proofs.Found.{found_in, none_in, passes_found}
use Rattle.payload_pool.proofs.Keeps.{few_tokens, free_kept, kept_room, kept_take, read_slot, take_at}
use Rattle.payload_pool.proofs.pool.Pool.take.Goals as goal

pub returns-in_err-place : goal.returns-in_err-place
returns-in_err-place c =
    let v = view_of c.self.inside in
    let full = none_in is_free v.slots c.deref.result.now c.free_place.result c.deref.ensures.value c.free_place.ensures (c.in_err-place.was) in
    rw c.from_residual.ensures (subst (λ (w : PoolView). has_free w ≡ false) c.self.view_is full, refl)

pub begin-payload-requires-clause-free : goal.begin-payload-requires-clause-free
begin-payload-requires-clause-free c =
    let v = view_of c.self.inside in
    let k = c.in_ok-place.place in
    let f = found_in is_free v.slots c.deref.result.now c.free_place.result k c.deref.ensures.value c.free_place.ensures (c.in_ok-place.was) in
    ap (λ (s : SlotView). is_free s) c.index_mut.ensures.value ∙ passes_found is_free v.slots k c.index_mut.result.now f

pub begin-payload-requires-clause-kept : goal.begin-payload-requires-clause-kept
begin-payload-requires-clause-kept c =
    let v = view_of c.self.inside in
    let k = c.in_ok-place.place in
    let f = found_in is_free v.slots c.deref.result.now c.free_place.result k c.deref.ensures.value c.free_place.ensures (c.in_ok-place.was) in
    subst (λ (s : SlotView). IsSome s.kept) (sym (read_slot v c.self.invariant k c.index_mut.result.now f.within c.index_mut.ensures.value)) (free_kept v c.self.invariant k f)

pub push-requires : goal.push-requires
push-requires c =
    let v = view_of c.self.inside in
    let f = found_in is_free v.slots c.deref.result.now c.free_place.result c.in_ok-place.place c.deref.ensures.value c.free_place.ensures (c.in_ok-place.was) in
    subst (λ (w : PoolView). has_free w ≡ true → length w.log.events < w.log.room) (sym c.self.view_is) c.requires.room f.any

low : (c : goal.After-issue_own-arg-1) → c.args.position < 1000000
low c =
    let v = view_of c.self.inside in
    let f = found_in is_free v.slots c.deref.result.now c.free_place.result c.in_ok-place.place c.deref.ensures.value c.free_place.ensures (c.in_ok-place.was) in
    subst (λ (w : PoolView). has_free w ≡ true → c.args.position < 1000000) (sym c.self.view_is) c.requires.position f.any

pub overflow_cast-position : goal.overflow_cast-position
overflow_cast-position c = let l = low c in record { fits = omega arith }

pub overflow_mul-position : goal.overflow_mul-position
overflow_mul-position c = let l = low c in record { fits = omega arith }

pub overflow_add-position : goal.overflow_add-position
overflow_add-position c = let l = low c in record { fits = omega arith }

pub issue_own-own-requires-clause-few : goal.issue_own-own-requires-clause-few
issue_own-own-requires-clause-few c =
    let few = few_tokens (view_of c.self.inside) c.self.invariant (32 * c.args.position + 16) in
    omega arith

-- the pool afterwards
after : (c : goal.After-issue_own-own) → record { initiator = c.self.inside.initiator; room = c.self.inside.room; slots = set c.self.inside.slots.items c.in_ok-place.place c.begin-payload.new.self; log = c.push.new.self; book = c.issue_own-own.new.book }
    ≡ changed (view_of c.self.inside) c.in_ok-place.place (taken_slot c.args.txn c.args.position) (event_by (view_of c.self.inside) c.args.position c.args.txn c.args.at (Take c.in_ok-place.place) 0) (issued c.self.inside.book (name_of c.args.position 16) 1)
after c = rw (c.begin-payload.ensures.slot, c.push.ensures, c.head.ensures, c.issue_own-own.ensures.book) refl

pub invariant_of-self : goal.invariant_of-self
invariant_of-self c =
    let v = view_of c.self.inside in
    let k = c.in_ok-place.place in
    let f = found_in is_free v.slots c.deref.result.now c.free_place.result k c.deref.ensures.value c.free_place.ensures (c.in_ok-place.was) in
    let below = subst (λ (w : PoolView). has_free w ≡ true → c.args.position < 1000000) (sym c.self.view_is) c.requires.position f.any in
    let past = subst (λ (w : PoolView). has_free w ≡ true → All (λ (y : Event). y.position < c.args.position) w.log.events) (sym c.self.view_is) c.requires.past f.any in
    subst IsPool (sym (after c)) (kept_take v c.self.invariant k c.args.position c.args.txn c.args.at f below past)

pub returns : goal.returns
returns c =
    let v = view_of c.self.inside in
    let k = c.in_ok-place.place in
    let f = found_in is_free v.slots c.deref.result.now c.free_place.result k c.deref.ensures.value c.free_place.ensures (c.in_ok-place.was) in
    let kept = ap (λ (s : SlotView). s.kept) (sym (read_slot v c.self.invariant k c.index_mut.result.now f.within c.index_mut.ensures.value)) ∙ c.begin-payload.ensures.kept in
    let room = kept_room v c.self.invariant k c.begin-payload.result.payload.room f kept in
    let payload : c.begin-payload.result.payload ≡ new_payload v.room = c.begin-payload.ensures.payload ∙ ap new_payload room in
    rw (← c.self.view_is) (f.any, after c ∙ take_at v c.self.invariant k c.args.position c.args.txn c.args.at f, rw (payload, c.begin-payload.ensures.wallet, c.issue_own-own.ensures.own, f.first) refl)
