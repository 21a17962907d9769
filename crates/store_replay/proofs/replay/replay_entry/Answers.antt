use Rattle.std.proofs.Common.{◌≡◌, ℕ, ◌<◌, ◌≤◌, inl, inr, true, false, refl, arith}
use Rattle.std.proofs.lemmas.Bool.{cases_lt, false≢true}
use Rattle.std.specs.Prelude.{vec_len}
use Rattle.store_replay.proofs.StoreLemmas.{goes_on, read_of, stays, there_at}
use Rattle.store_replay.proofs.replay.replay_entry.Goals as goal

pub returns-in-Some-get_mut : goal.returns-in-Some-get_mut
returns-in-Some-get_mut c e at =
    let x = c.in-Some.access in
    let read = read_of c.args.log.now.entries c.args.index e x at c.in-Some.ensures.head c.in-Some.ensures.facts c.in-Some.ensures.sent c.in-Some.ensures.enables in
    let stores = c.args.stores.now in
    let here = c.in-Some-get_mut in
    let below = here.ensures.variant.0 refl in
    let at_place = there_at stores.items c.in-Memory.number here.store.now (omega (arith, below, stores.ok.0)) here.ensures.value in
    goes_on e x c.in-Memory.number stores.items here.store.now c.apply.new.self read c.in-Memory.is at_place c.apply.ensures

beyond : (k n : ℕ) → (k < n → false ≡ true) → n ≤ k
beyond k n not = elim (cases_lt k n) [ inl below ↦ absurd (false≢true (not below)) | inr far ↦ far ]

pub returns-in_default-get_mut : goal.returns-in_default-get_mut
returns-in_default-get_mut c e at =
    let x = c.in-Some.access in
    let read = read_of c.args.log.now.entries c.args.index e x at c.in-Some.ensures.head c.in-Some.ensures.facts c.in-Some.ensures.sent c.in-Some.ensures.enables in
    let stores = c.args.stores.now in
    stays e x c.in-Memory.number stores.items read c.in-Memory.is (let far = beyond c.in-Memory.number (vec_len stores) c.in_default-get_mut.ensures.variant.1 in omega (arith, far, stores.ok.0))
