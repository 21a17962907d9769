-- What holds of each pool holds after each of its calls.
use Rattle.std.proofs.Common.{◌≡◌, ℕ, ◌+◌, ◌-◌, ◌<◌, ◌≤◌, ◌==◌, Bool, true, false, cond, List, [], ◌∷◌, ◌++◌, length, Option, Some, None, refl, sym, ap, ◌∙◌, subst, arith, set, get_or, length-set}
use Rattle.std.specs.Prelude.{◌%◌, IsSome, IfSome, MatchOption}
use Rattle.std.specs.List.{All, list_any, position}
use Rattle.std.specs.Option.{option_map, option_or}
use Rattle.std.proofs.lemmas.Bool.{eqb-true, eqb-false, lt-ltb, cond-false, ne_eqb}
use Rattle.std.proofs.lemmas.List.{get_or_read}
use Rattle.std.proofs.lemmas.List.Sums.{sum_by-set, fails_before_first}
use Rattle.std.proofs.lemmas.List.Elements.{All-set, All-push, All-from_get_or, All-get_or}
use Rattle.tlm_types.specs.declared.words.ObjectNo.TheVariants.{Pool as pool_number}
use Rattle.tlm_types.specs.declared.words.TxnId.{TxnId}
use Rattle.tlm_types.specs.declared.entry.What.TheVariants.{Take, Acquire, Release}
use Rattle.token_book.specs.Account.{Account, Slip, out_of, issued, retired}
use Rattle.token_book.proofs.Amounts.{out_of-put_out, out_of-struck_off}
use Rattle.flow_model.specs.Events.{Event}
use Rattle.flow_model.specs.Pools.{Life, slots_after}
use Rattle.flow_model.specs.Slots.{no_slots}
use Rattle.payload_pool.specs.declared.slot.KeptPayload.{KeptPayload}
use Rattle.payload_pool.specs.Slots.{SlotView, slot_at, blank_slot, tally, is_free, has_name, names_out, all_out, name_of, reference_number, acquired_of, taken_slot, acquired_more, given_back, without}
use Rattle.payload_pool.specs.Lives.{IsOfLog, FitsLog, no_takes, takes_after}
use Rattle.payload_pool.specs.Pool.{PoolView, IsPool, IsSlot, event_by, changed, after_take, after_acquire, after_release, is_last}
use Rattle.payload_pool.proofs.Found.{any_sum, Found, found, passes_found}
use Rattle.payload_pool.proofs.Tallies.{tally_push, tally_few, tally_without}
use Rattle.payload_pool.proofs.Names.{counts, names_free, names_begun, names_more, names_less, few_out, IsNamed, is_named}
use Rattle.payload_pool.proofs.Lives.{live_life, single}
use Rattle.payload_pool.proofs.Steps.{fits_take, fits_acquire, fits_release}

-- what is out after a token was issued, or retired
out_issued : (b : Account) (name m : ℕ) → out_of m (issued b name 1).out ≡ out_of m b.out + counts name m
out_issued b name m = out_of-put_out 0 m name 1 b.out

out_retired : (b : Account) (t : Slip) (m : ℕ) → t.amount ≡ 1 → 1 ≤ out_of t.name b.out → out_of m (retired b t).out + counts t.name m ≡ out_of m b.out
out_retired b t m one was =
    subst (λ (a : ℕ). out_of m ((t.name, out_of t.name b.out - a) ∷ b.out) + counts t.name m ≡ out_of m b.out) (sym one) (out_of-struck_off 0 m t.name 1 b.out was)

one_at_most : (b : Bool) → cond {A = ℕ} b 1 0 ≤ 1
one_at_most true = omega arith
one_at_most false = omega arith

few_of_log : (s : SlotView) (position : ℕ) (o : Option Life) → IsOfLog s position o → length s.out ≤ 16
few_of_log s position None is = let e : length s.out ≡ 0 = ap length is in omega arith
few_of_log s position (Some l) is = let sum = is.0.total in let few = is.0.few in omega arith

module _ (v : PoolView) (i : IsPool v) where
  pub few_slots : All (λ (s : SlotView). length s.out ≤ 16) v.slots
  few_slots =
      All-from_get_or (λ (s : SlotView). length s.out ≤ 16) v.slots blank_slot
      (λ k below. few_of_log (slot_at v.slots k) (takes_after no_takes v.log.events k) (slots_after no_slots v.log.events k) (i.follows.log.lives k))

  pub few_tokens : (name : ℕ) → out_of name v.book.out ≤ 256
  few_tokens name = let a = few_out v.slots name i.few few_slots in let b = i.tokens name in omega arith

  -- a token that is out is of a slot
  pub out_somewhere : (name : ℕ) → 1 ≤ out_of name v.book.out → list_any (has_name name) v.slots ≡ true
  out_somewhere name was =
      let b = i.tokens name in
      any_sum (names_out name) v.slots ∙ lt-ltb 0 (all_out name v.slots) (omega arith)

  -- a change of a slot
  record Keeps (k : ℕ) (next : SlotView) (e : Event) (book : Account) : Type 0 where
    pub below : k < length v.slots
    pub slot : IsSlot v.room next
    pub tokens : (m : ℕ) → out_of m book.out + names_out m (slot_at v.slots k) ≡ out_of m v.book.out + names_out m next
    pub log : FitsLog (set v.slots k next) (v.log.events ++ e ∷ [])
    pub own : e.object ≡ pool_number v.initiator

  kept_changed : (k : ℕ) (next : SlotView) (e : Event) (book : Account) → Keeps k next e book → IsPool (changed v k next e book)
  kept_changed k next e book c = record {
    few = let same = length-set v.slots k next in let few = i.few in omega arith;
    slots = All-set (IsSlot v.room) v.slots k next c.slot i.slots;
    tokens = λ m.
        let a = sum_by-set (names_out m) v.slots k next blank_slot c.below in
        let b = c.tokens m in
        let t = i.tokens m in
        omega arith;
    follows = record { log = c.log; own = All-push (λ (x : Event). x.object ≡ pool_number v.initiator) v.log.events e i.follows.own c.own };
  }

  old_slot : (k : ℕ) → k < length v.slots → IsSlot v.room (slot_at v.slots k)
  old_slot k below = All-get_or (IsSlot v.room) v.slots k blank_slot below i.slots

  -- a free slot keeps a payload of the pool's room
  pub free_kept : (k : ℕ) → Found is_free v.slots k → IsSome (slot_at v.slots k).kept
  free_kept k f =
      let free = eqb-true (length (slot_at v.slots k).out) 0 (passes_found is_free v.slots k blank_slot f) in
      let few = tally_few 15 (slot_at v.slots k).out in
      (old_slot k f.within).stocked (omega arith)

  room_by : (o : Option ℕ) (bytes : ℕ) → IfSome o (λ b. b ≡ v.room) → o ≡ Some bytes → bytes ≡ v.room
  room_by (Some b) bytes is e = let q : b ≡ bytes = cc in sym q ∙ is
  room_by None bytes is e = cc

  pub kept_room : (k bytes : ℕ) → Found is_free v.slots k → (slot_at v.slots k).kept ≡ Some bytes → bytes ≡ v.room
  kept_room k bytes f e = room_by (slot_at v.slots k).kept bytes (old_slot k f.within).kept e

  -- what was read at a place
  pub read_slot : (k : ℕ) (s : SlotView) → k < length v.slots → s ≡ get_or v.slots k s → s ≡ slot_at v.slots k
  read_slot k s below e = get_or_read v.slots k s below e blank_slot

  live_before : (k j : ℕ) → Found is_free v.slots k → j < k → 0 < length (slot_at v.slots j).out
  live_before k j f h =
      let e = f.first in
      let none = eqb-false (length (slot_at v.slots j).out) 0 (fails_before_first is_free v.slots j blank_slot (omega arith)) in
      omega arith

  pub kept_take : (k position : ℕ) (x : TxnId) (time : ℕ) → Found is_free v.slots k → position < 1000000 → All (λ (y : Event). y.position < position) v.log.events
      → IsPool (changed v k (taken_slot x position) (event_by v position x time (Take k) 0) (issued v.book (name_of position 16) 1))
  kept_take k position x time f low past =
      let free = eqb-true (length (slot_at v.slots k).out) 0 (passes_found is_free v.slots k blank_slot f) in
      kept_changed k (taken_slot x position) (event_by v position x time (Take k) 0) (issued v.book (name_of position 16) 1) (record {
        below = f.within;
        slot = record { placed = low; stocked = λ e. cc; kept = tt };
        tokens = λ m.
            let a = out_issued v.book (name_of position 16) m in
            let b = names_free (slot_at v.slots k) m free in
            let c = names_begun x position m in
            omega arith;
        log = fits_take v.slots v.log.events i.follows.log k f.within position (pool_number v.initiator) x time past free (λ j h. live_before k j f h);
        own = refl;
      })

  -- the slot of a token that is out
  pub record Holds (t : Slip) (k : ℕ) : Type 0 where
    pub place : Found (has_name t.name) v.slots k
    pub one : t.amount ≡ 1
    pub was : 1 ≤ out_of t.name v.book.out

  -- the slot of a token that was retired
  pub holds_at : (t : Slip) (name k : ℕ) (read : List SlotView) → read ≡ v.slots → name ≡ t.name → position (has_name name) read ≡ Some k → t.amount ≡ 1 → t.amount ≤ out_of t.name v.book.out → Holds t k
  holds_at t name k read same e first one was = record {
    place = found (has_name t.name) v.slots k (ap (λ (l : List SlotView). position (has_name t.name) l) (sym same) ∙ ap (λ (n : ℕ). position (has_name n) read) (sym e) ∙ first);
    one = one;
    was = omega arith;
  }

  pub is_somewhere : (t : Slip) (name : ℕ) (read : List SlotView) → read ≡ v.slots → name ≡ t.name → t.amount ≡ 1 → t.amount ≤ out_of t.name v.book.out → list_any (has_name name) read ≡ true
  is_somewhere t name read same e one was = ap (λ (n : ℕ). list_any (has_name n) read) e ∙ ap (λ (l : List SlotView). list_any (has_name t.name) l) same ∙ out_somewhere t.name (omega arith)

  named : (t : Slip) (k : ℕ) → Holds t k → IsNamed (slot_at v.slots k) t.name
  named t k h = is_named (slot_at v.slots k) t.name (passes_found (has_name t.name) v.slots k blank_slot h.place)

  -- what is known of the slot of a baton that may acquire
  pub record MayAcquire (t : Slip) (k : ℕ) : Type 0 where
    pub acquired : acquired_of t.name ≡ (slot_at v.slots k).acquired
    pub few : (slot_at v.slots k).acquired < 15
    pub room : length (slot_at v.slots k).out < 16
    pub part : t.name % 32 ≡ 16 + (slot_at v.slots k).acquired
    pub live : 0 < length (slot_at v.slots k).out
    pub single : tally 15 (slot_at v.slots k).out ≡ 1

  pub may_acquire : (t : Slip) (k : ℕ) → Holds t k → 16 ≤ t.name % 32 → acquired_of t.name < 15 → MayAcquire t k
  may_acquire t k h own less =
      let s = slot_at v.slots k in
      let n = named t k h in
      let part = n.own (omega arith) in
      let number : reference_number t.name ≡ 15 = omega arith in
      let some : 1 ≤ tally 15 s.out = subst (λ (x : ℕ). 1 ≤ tally x s.out) number n.some in
      let many = tally_few 15 s.out in
      let l = live_life s (takes_after no_takes v.log.events k) (slots_after no_slots v.log.events k) (omega arith) (i.follows.log.lives k) in
      let sum = l.of.total in
      record {
        acquired = omega arith;
        few = omega arith;
        room = omega arith;
        part = part;
        live = omega arith;
        single = single s l.life 15 l.of some;
      }

  pub kept_acquire : (t : Slip) (k position time : ℕ) → Holds t k → 16 ≤ t.name % 32 → acquired_of t.name < 15 → All (λ (y : Event). y.position < position) v.log.events
      → IsPool (changed v k (acquired_more (slot_at v.slots k)) (event_by v position (slot_at v.slots k).txn time (Acquire k) (acquired_of t.name)) (issued (issued (retired v.book t) (t.name + 1) 1) (t.name - 16) 1))
  kept_acquire t k position time h own less past =
      let s = slot_at v.slots k in
      let may = may_acquire t k h own less in
      let old = old_slot k h.place.within in
      let first = retired v.book t in
      let second = issued first (t.name + 1) 1 in
      kept_changed k (acquired_more s) (event_by v position s.txn time (Acquire k) (acquired_of t.name)) (issued second (t.name - 16) 1) (record {
        below = h.place.within;
        slot = record {
          placed = old.placed;
          stocked = λ e. let p = tally_push 15 s.out s.acquired in old.stocked (omega arith);
          kept = old.kept;
        };
        tokens = λ m.
            let a = out_issued second (t.name - 16) m in
            let b = out_issued first (t.name + 1) m in
            let c = out_retired v.book t m h.one h.was in
            let d = names_more s t.name m (named t k h).position may.part may.few may.single in
            omega arith;
        log = fits_acquire v.slots v.log.events i.follows.log k h.place.within position (pool_number v.initiator) time (acquired_of t.name) past may.live may.few may.acquired;
        own = refl;
      })

  -- what is brought back fits the token: a payload of the pool's room with a baton's, nothing with a hold's
  abbrev pub Brings : ℕ → Option ℕ → Type 0
  Brings name kept = MatchOption kept (name % 32 < 15) (λ bytes. (16 ≤ name % 32) × (bytes ≡ v.room))

  stocked_after : (s : SlotView) (name : ℕ) (kept : Option ℕ) → IsSlot v.room s → 1 ≤ tally (reference_number name) s.out → Brings name kept → tally 15 (without (reference_number name) s.out) ≡ 0 → IsSome (option_or kept s.kept)
  stocked_after s name (Some b) old some brings e = refl
  stocked_after s name None old some brings e =
      let n = reference_number name in
      let less = tally_without 15 n s.out some in
      let other = cond-false {A = ℕ} (n == 15) 1 0 (ne_eqb n 15 (λ q. omega arith)) in
      old.stocked (omega arith)

  kept_after : (s : SlotView) (name : ℕ) (kept : Option ℕ) → IsSlot v.room s → Brings name kept → IfSome (option_or kept s.kept) (λ bytes. bytes ≡ v.room)
  kept_after s name (Some b) old brings = brings.1
  kept_after s name None old brings = old.kept

  pub kept_release : (t : Slip) (k position time : ℕ) (kept : Option ℕ) → Holds t k → Brings t.name kept → All (λ (y : Event). y.position < position) v.log.events
      → IsPool (changed v k (given_back (reference_number t.name) kept (slot_at v.slots k)) (event_by v position (slot_at v.slots k).txn time (Release k (length (slot_at v.slots k).out == 1)) (reference_number t.name)) (retired v.book t))
  kept_release t k position time kept h brings past =
      let s = slot_at v.slots k in
      let n = reference_number t.name in
      let old = old_slot k h.place.within in
      let is = named t k h in
      kept_changed k (given_back n kept s) (event_by v position s.txn time (Release k (length s.out == 1)) n) (retired v.book t) (record {
        below = h.place.within;
        slot = record {
          placed = old.placed;
          stocked = stocked_after s t.name kept old is.some brings;
          kept = kept_after s t.name kept old brings;
        };
        tokens = λ m.
            let a = out_retired v.book t m h.one h.was in
            let b = names_less s kept t.name m is in
            omega arith;
        log = fits_release v.slots v.log.events i.follows.log k h.place.within position (pool_number v.initiator) time n kept past is.some;
        own = refl;
      })

  -- what the calls make, at the place that was found
  pub take_at : (k position : ℕ) (x : TxnId) (time : ℕ) → Found is_free v.slots k
      → changed v k (taken_slot x position) (event_by v position x time (Take k) 0) (issued v.book (name_of position 16) 1) ≡ after_take v position x time
  take_at k position x time f =
      ap (λ (j : ℕ). changed v j (taken_slot x position) (event_by v position x time (Take j) 0) (issued v.book (name_of position 16) 1)) (sym f.first)

  pub acquire_at : (t : Slip) (k position time : ℕ) → Holds t k
      → changed v k (acquired_more (slot_at v.slots k)) (event_by v position (slot_at v.slots k).txn time (Acquire k) (acquired_of t.name)) (issued (issued (retired v.book t) (t.name + 1) 1) (t.name - 16) 1) ≡ after_acquire v position t time
  acquire_at t k position time h =
      ap (λ (j : ℕ). changed v j (acquired_more (slot_at v.slots j)) (event_by v position (slot_at v.slots j).txn time (Acquire j) (acquired_of t.name)) (issued (issued (retired v.book t) (t.name + 1) 1) (t.name - 16) 1)) (sym h.place.first)

  pub release_at : (t : Slip) (k position time : ℕ) (kept : Option ℕ) → Holds t k
      → changed v k (given_back (reference_number t.name) kept (slot_at v.slots k)) (event_by v position (slot_at v.slots k).txn time (Release k (length (slot_at v.slots k).out == 1)) (reference_number t.name)) (retired v.book t) ≡ after_release v position t time kept
  release_at t k position time kept h =
      ap (λ (j : ℕ). changed v j (given_back (reference_number t.name) kept (slot_at v.slots j)) (event_by v position (slot_at v.slots j).txn time (Release j (length (slot_at v.slots j).out == 1)) (reference_number t.name)) (retired v.book t)) (sym h.place.first)

  pub last_at : (t : Slip) (k : ℕ) → Holds t k → (length (slot_at v.slots k).out == 1) ≡ is_last v t.name
  last_at t k h = ap (λ (j : ℕ). length (slot_at v.slots j).out == 1) (sym h.place.first)

  -- a number that a token names is out
  pub some_at : (t : Slip) (k : ℕ) → Holds t k → 1 ≤ tally (reference_number t.name) (slot_at v.slots k).out
  some_at t k h = (named t k h).some

  -- what is out after a token was retired, and another was issued
  pub few_retired : (t : Slip) (k : ℕ) → Holds t k → (m : ℕ) → out_of m (retired v.book t).out ≤ 256
  few_retired t k h m = let a = out_retired v.book t m h.one h.was in let b = few_tokens m in omega arith

  pub few_issued : (t : Slip) (k : ℕ) → Holds t k → (n m : ℕ) → out_of m (issued (retired v.book t) n 1).out ≤ 257
  few_issued t k h n m =
      let a = out_issued (retired v.book t) n m in
      let b = few_retired t k h m in
      let c : counts n m ≤ 1 = one_at_most (n == m) in
      omega arith

  pub brought : (name : ℕ) (kept : Option KeptPayload) → MatchOption kept (name % 32 < 15) (λ b. (16 ≤ name % 32) × (b.payload.room ≡ v.room)) → Brings name (option_map (λ (b : KeptPayload). b.payload.room) kept)
  brought name None h = h
  brought name (Some b) h = h
