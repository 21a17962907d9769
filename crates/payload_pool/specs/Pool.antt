-- What contracts see of a pool, and what its calls make of it.
use Rattle.std.specs.Prelude.{ℕ, ◌≡◌, ◌+◌, ◌-◌, ◌<◌, ◌≤◌, ◌==◌, Bool, List, length, Option, slice_set, IfSome}
use Rattle.std.specs.Option.{IsSome}
use Rattle.std.specs.List.{All, list_any, count_by}
use Rattle.tlm_types.specs.declared.words.ObjectNo.TheVariants.{Pool as pool_number}
use Rattle.tlm_types.specs.declared.words.TxnId.{TxnId}
use Rattle.tlm_types.specs.declared.entry.What.{What}
use Rattle.tlm_types.specs.declared.entry.What.TheVariants.{Take, Acquire, Release}
use Rattle.generic_payload.specs.Payload.{new_payload}
use Rattle.token_book.specs.Account.{Account, Slip, out_of, issued, retired, slip}
use Rattle.token_book.specs.Purse.{empty_purse}
use Rattle.flow_model.specs.Events.{Event}
use Rattle.payload_pool.specs.declared.baton.Baton.{Baton}
use Rattle.numbered_log.specs.Logged.{LoggedView, event_of, with_event}
use Rattle.payload_pool.specs.Slots.{SlotView, slot_at, is_free, is_live, tally, name_of, reference_number, acquired_of, all_out, free_place, slot_place, taken_slot, acquired_more, given_back}
use Rattle.payload_pool.specs.Lives.{FitsLog}

-- a pool: whose it is, how many bytes each payload can hold, its slots, its log, and the book of its references
pub record PoolView : Type 0 where
  pub initiator : ℕ
  pub room : ℕ
  pub slots : List SlotView
  pub log : LoggedView
  pub book : Account

-- the position fits a name, and a slot without a baton keeps a payload
pub record IsSlot (room : ℕ) (s : SlotView) : Type 0 where
  pub placed : s.position < 1000000
  pub stocked : tally 15 s.out ≡ 0 → IsSome s.kept
  pub kept : IfSome s.kept (λ bytes. bytes ≡ room)

-- the slots are those of the log, and each entry is the pool's
pub record Follows (v : PoolView) : Type 0 where
  pub log : FitsLog v.slots v.log.events
  pub own : All (λ (e : Event). e.object ≡ pool_number v.initiator) v.log.events

-- what holds of each pool
pub record IsPool (v : PoolView) : Type 0 where
  pub few : length v.slots ≤ 16
  pub slots : All (IsSlot v.room) v.slots
  -- the tokens that are out are those of the references
  pub tokens : (name : ℕ) → out_of name v.book.out ≡ all_out name v.slots
  pub follows : Follows v

-- the token is one of the pool's book
pub record IsOut (v : PoolView) (t : Slip) : Type 0 where
  pub table : t.table ≡ v.book.table
  pub owner : t.owner ≡ v.book.owner

-- an entry of the pool
abbrev pub event_by : PoolView → ℕ → TxnId → ℕ → What → ℕ → Event
event_by v position txn time what number = event_of (record { position = position; object = pool_number v.initiator; txn = txn; time = time; what = what }) number

-- the pool with another slot at this place, one more entry, and another book
abbrev pub changed : PoolView → ℕ → SlotView → Event → Account → PoolView
changed v k s e book = record v { slots = slice_set v.slots k s; log = with_event v.log e; book = book }

abbrev pub has_free : PoolView → Bool
has_free v = list_any is_free v.slots

-- how many slots are live
abbrev pub live_of : PoolView → ℕ
live_of v = count_by is_live v.slots

-- what a Take makes: the least free slot is taken, with one reference
abbrev pub after_take : PoolView → ℕ → TxnId → ℕ → PoolView
after_take v position txn time =
    let k = free_place v.slots in
    changed v k (taken_slot txn position) (event_by v position txn time (Take k) 0) (issued v.book (name_of position 16) 1)

abbrev pub first_baton : PoolView → ℕ → TxnId → Baton
first_baton v position txn = record { payload = new_payload v.room; wallet = empty_purse 12; slot = free_place v.slots; txn = txn; own = slip v.book (name_of position 16) 1 }

-- what an Acquire with a baton of this token makes: the baton counts it, and one reference more is out
abbrev pub after_acquire : PoolView → ℕ → Slip → ℕ → PoolView
after_acquire v position own time =
    let k = slot_place own.name v.slots in
    let s = slot_at v.slots k in
    changed v k (acquired_more s) (event_by v position s.txn time (Acquire k) (acquired_of own.name)) (issued (issued (retired v.book own) (own.name + 1) 1) (own.name - 16) 1)

abbrev pub next_baton : PoolView → Baton → Baton
next_baton v b = record b { own = slip v.book (b.own.name + 1) 1 }

abbrev pub next_hold : PoolView → Baton → Slip
next_hold v b = slip v.book (b.own.name - 16) 1

-- the reference is the last one of its slot
abbrev pub is_last : PoolView → ℕ → Bool
is_last v name = length (slot_at v.slots (slot_place name v.slots)).out == 1

-- what a Release of a token makes: its reference is gone, and its slot is free if it was the last
abbrev pub after_release : PoolView → ℕ → Slip → ℕ → Option ℕ → PoolView
after_release v position t time kept =
    let k = slot_place t.name v.slots in
    let s = slot_at v.slots k in
    changed v k (given_back (reference_number t.name) kept s) (event_by v position s.txn time (Release k (is_last v t.name)) (reference_number t.name)) (retired v.book t)
