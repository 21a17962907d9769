-- What a note knows backs the calls of a pool, and what they leave.
use Rattle.std.proofs.Common.{◌≡◌, ℕ, ◌+◌, ◌-◌, ◌*◌, ◌<◌, List, [], ◌∷◌, ◌++◌, length, map, get_or, Bool, true, false, Option, Some, None, refl, sym, ◌∙◌, ap, arith, subst}
use Rattle.std.specs.Prelude.{◌≤◌, ◌/◌, ◌%◌, min, slice_get, IfSome, MatchOption}
use Rattle.std.specs.Option.{unwrap_or}
use Rattle.atomic_table.specs.Seated.{TableId}
use Rattle.view_lists.specs.Lists.{Has}
use Rattle.view_lists.proofs.Keys.{of_key-has}
use Rattle.view_lists.proofs.Members.{has_map, has_mapped, has_right}
use Rattle.one_history.specs.declared.entry.Entry.{Entry as HistoryEntry}
use Rattle.one_history.specs.declared.view.Frame.{Frame}
use Rattle.one_history.specs.declared.view.View.{View}
use Rattle.one_history.specs.Lists.{entries_at, object_of}
use Rattle.tlm_types.specs.declared.entry.Content.{Content}
use Rattle.tlm_types.specs.declared.entry.What.TheVariants as Whats
use Rattle.tlm_types.specs.declared.words.ObjectNo.TheVariants.{Hop, Pool}
use Rattle.tlm_types.specs.declared.words.TxnId.{TxnId}
use Rattle.tlm_model.specs.Plan.{Plan}
use Rattle.token_book.specs.Account.{Slip, slip}
use Rattle.token_book.specs.Purse.{Purse, empty_purse}
use Rattle.token_book.specs.declared.ticket.Ticket.{Ticket}
use Rattle.generic_payload.specs.Payload.{new_payload}
use Rattle.shared_object.specs.Standing.{IsBuiltFor, place}
use Rattle.shared_object.specs.Steps.{Enters, unspent}
use Rattle.shared_object.specs.Written.{Written, placed, written, wrote}
use Rattle.numbered_log.specs.Logged.{written_by}
use Rattle.payload_pool.specs.declared.baton.Baton.{Baton}
use Rattle.payload_pool.specs.declared.call.PoolCall.TheVariants.{Take, Acquire, Release, Stow}
use Rattle.payload_pool.specs.declared.call.PoolReply.TheVariants.{Took, Acquired, Released}
use Rattle.payload_pool.specs.Calls.{built_of, content_of, is_out, Fits}
use Rattle.payload_pool.specs.Pool.{IsOut, PoolView, has_free, is_last}
use Rattle.payload_pool.specs.Slots.{acquired_of, free_place, name_of, reference_number, slot_at, slot_place}
use Rattle.payload_pool.proofs.Takes.{names_transaction}
use Rattle.flow_model.specs.Events.{Event, Finds, IsAcquire, IsRelease}
use Rattle.flow_model.specs.Platform.{world_of}
use Rattle.cargo_model.specs.Known.{Known, event_of, object_number, objects_of}
use Rattle.cargo_model.specs.Tickets.{Pulls}
use Rattle.cargo_model.specs.Travel.{IsTakenAt, reference}
use Rattle.cargo_model.proofs.Backs.{backed_as}
use Rattle.cargo_model.proofs.Origins.{stands}
use Rattle.cargo_net.specs.Grows.{grows}
use Rattle.cargo_net.specs.Pools.{HasAcquired, HasPooled, HasPooledWith, HasReleased, HasTaken, IsPoolOf, MayAcquire, MayRelease, MayStow, MayTake, MeetsPool}
use Rattle.cargo_net.specs.Traffic.{Backs, IsPoolBuilt}
use Rattle.cargo_net.proofs.Lists.{read_there}
use Rattle.cargo_net.proofs.ObjectsOnce.{pool_number}

-- the parts of names
place_of_own : (q n : ℕ) → n < 16 → (32 * q + (16 + n)) / 32 ≡ q
place_of_own q n few = omega arith

count_of_own : (q n : ℕ) → n < 16 → (32 * q + (16 + n)) % 16 ≡ n
count_of_own q n few = omega arith

number_of_own : (q n : ℕ) → n < 16 → min ((32 * q + (16 + n)) % 32) 15 ≡ 15
number_of_own q n few = omega arith

place_of_hold : (q n : ℕ) → n < 15 → (32 * q + n) / 32 ≡ q
place_of_hold q n few = omega arith

number_of_hold : (q n : ℕ) → n < 15 → min ((32 * q + n) % 32) 15 ≡ n
number_of_hold q n few = omega arith

pub next_own : (q n : ℕ) → 32 * q + (16 + n) + 1 ≡ 32 * q + (16 + (n + 1))
next_own q n = omega arith

pub next_hold : (q n : ℕ) → 32 * q + (16 + n) - 16 ≡ 32 * q + n
next_hold q n = omega arith

-- the entry that an admitted call added
pub added : (frame : Frame Plan) (number : ℕ) (before after : List Written) (taken : Bool) (content : Content) (note back : View Content Plan) (z : Option ℕ) → Enters frame number before after taken content note back z → taken ≡ true
    → (position : ℕ) × ((z ≡ Some position) × Has back.known (placed number (wrote position content)))
added frame number before after taken content note back None e is = absurd (differ (sym e.when ∙ is))
  where
    differ : false ≡ true → ⊥
    differ q = cc
added frame number before after taken content note back (Some z) e is = (
  z,
  (refl, e.knows _ (has_mapped (placed number) after (wrote z content) (subst (λ (l : List Written). Has l (wrote z content)) (sym e.log) (has_right before (wrote z content ∷ []) _ (0, refl))))),
)

module _ (frame : Frame Plan) (tokens : TableId) (number own : ℕ) (x : TxnId) (pool : IsPoolOf frame number x) where
  abbrev p : Plan
  p = frame.world

  object_is : get_or (objects_of p.platform) number (Hop 0) ≡ Pool x.initiator
  object_is =
      read_there (objects_of p.platform) number (Pool x.initiator) (Hop 0)
      (subst (λ (i : ℕ). slice_get (objects_of p.platform) i ≡ Some (Pool x.initiator)) (sym pool.place) (stands (Pool x.initiator) (objects_of p.platform) pool.there))

  -- a token of the pool's book is a reference of x
  abbrev named : ℕ → Slip
  named name = record { table = tokens; owner = length (objects_of p.platform) + object_number p.platform (Pool x.initiator); name = name; amount = 1 }

  owners : length frame.planned + number ≡ length (objects_of p.platform) + object_number p.platform (Pool x.initiator)
  owners = ap (λ (n : ℕ). n + number) pool.planned ∙ ap (λ (n : ℕ). length (objects_of p.platform) + n) pool.place

  token_is : (v : PoolView) → IsBuiltFor IsPoolBuilt (place frame tokens number own) (built_of v) → (name : ℕ) → slip v.book name 1 ≡ named name
  token_is v built name =
      ap (λ (t : TableId). record { table = t; owner = v.book.owner; name = name; amount = 1 }) built.book.0
      ∙ ap (λ (o : ℕ). record { table = tokens; owner = o; name = name; amount = 1 }) (built.book.1 ∙ owners)

  out : (v : PoolView) → IsBuiltFor IsPoolBuilt (place frame tokens number own) (built_of v) → (t : Slip) (name : ℕ) → t ≡ named name → IsOut v t
  out v built t name q = record { table = ap (λ (s : Slip). s.table) q ∙ sym built.book.0; owner = ap (λ (s : Slip). s.owner) q ∙ sym owners ∙ sym built.book.1 }

  module _ (note : View Content Plan) where
    abbrev known : Event → Type 0
    known = Known p.platform note.known

    -- the slot of a reference of a known Take of x has x
    slot_txn : (v : PoolView) → MeetsPool frame tokens number own note.known v → (name position : ℕ) → is_out v name ≡ true → name / 32 ≡ position → Finds known (IsTakenAt x position) → (slot_at v.slots (slot_place name v.slots)).txn ≡ x
    slot_txn v meets name position there at f =
        let e = f.known.entry in
        let object : f.event.object ≡ get_or (objects_of p.platform) e.object (Hop 0) = ap (λ (y : Event). y.object) f.known.is in
        let place_is : e.object ≡ number = pool_number p.platform e.object x.initiator (sym object ∙ f.is.take.object) ∙ sym pool.place in
        let here = has_mapped written (entries_at number note.known) e (subst (λ (i : ℕ). Has (entries_at i note.known) e) place_is (of_key-has object_of note.known e f.known.has)) in
        let m = has_map written_by v.log.events (written e) (meets.knows (written e) here) in
        let stands_at : m.0.position ≡ name / 32 = ap (λ (w : Written). w.position) m.2 ∙ (sym (ap (λ (y : Event). y.position) f.known.is) ∙ f.is.take.place ∙ sym at) in
        let taken = (names_transaction v name meets.state there).one m.0 m.1 stands_at in
        taken.txn ∙ (ap (λ (w : Written). w.content.txn) m.2 ∙ (sym (ap (λ (y : Event). y.txn) f.known.is) ∙ f.is.take.txn))

    -- what the note knows backs it, so it does with the pool's log
    with_log : (v : PoolView) (e : HistoryEntry Content) → Backs p note.known e → Backs p (map (placed number) (map written_by v.log.events) ++ note.known) e
    with_log v e b = grows p note.known (map (placed number) (map written_by v.log.events) ++ note.known) e (λ d h. has_right (map (placed number) (map written_by v.log.events)) note.known d h) b

    -- a Release by a reference of x
    released_by : (v : PoolView) → MeetsPool frame tokens number own note.known v → (t : Slip) (position r : ℕ) (at q : ℕ) → is_out v t.name ≡ true → t.name / 32 ≡ position → reference_number t.name ≡ r → Finds known (IsTakenAt x position)
        → IsRelease x r (is_last v t.name) (event_of p.platform (placed number (wrote q (record { txn = (slot_at v.slots (slot_place t.name v.slots)).txn; time = at; what = Whats.Release (slot_place t.name v.slots) (is_last v t.name); number = reference_number t.name }))))
    released_by v meets t position r at q there place_is number_is f = record { object = object_is; txn = slot_txn v meets t.name position there place_is f; number = number_is; slot = slot_place t.name v.slots; what = refl }

-- TAKE
module _ (frame : Frame Plan) (tokens : TableId) (number own : ℕ) (x : TxnId) (at : ℕ) (note : View Content Plan) (may : MayTake frame number x) where
  pub take_backed : (v : PoolView) (q : ℕ) → Backs frame.world (map (placed number) (map written_by v.log.events) ++ note.known) (placed number (wrote q (content_of v (Take x at))))
  take_backed v q =
      with_log frame tokens number own x may.pool note v (placed number (wrote q (content_of v (Take x at))))
      (backed_as (world_of frame.world) (Known frame.world.platform note.known) x may.pass may.passes (event_of frame.world.platform (placed number (wrote q (content_of v (Take x at))))) (Pool x.initiator) 0 (Whats.Take (free_place v.slots)) refl
      (object_is frame tokens number own x may.pool) refl refl refl)

  pub taken : (back : View Content Plan) (b : Baton) → HasPooled frame tokens number own note back (Take x at) (Took (Some b)) → HasTaken frame tokens x at note.seen b back.known
  taken back b a =
      let v = a.before in
      let t = a.applied in
      let e = added frame number _ _ (has_free v) (content_of v (Take x at)) note back a.position a.enters t.0 in
      let room : v.room ≡ 4096 = a.met.built_for.world.room in
      let is = t.2 in
      let slot : b.slot ≡ free_place v.slots = ap (λ (d : Baton). d.slot) is in
      record {
        position = e.0;
        late = (subst (λ (z : Option ℕ). IfSome z (λ k. (note.seen ≤ k) × (k < back.seen))) e.1.0 a.enters.late).0;
        taken = record {
          event = event_of frame.world.platform (placed number (wrote e.0 (content_of v (Take x at))));
          known = record { entry = placed number (wrote e.0 (content_of v (Take x at))); has = e.1.1; is = refl };
          is = record { object = object_is frame tokens number own x may.pool; txn = refl; what = ap (λ (k : ℕ). Whats.Take k) (sym slot); place = refl };
          time = refl;
        };
        baton = is
            ∙ ap (λ (z : Option ℕ). record { payload = new_payload v.room; wallet = empty_purse 12; slot = free_place v.slots; txn = x; own = slip v.book (name_of (unwrap_or z 0) 16) 1 }) e.1.0
            ∙ ap (λ (r : ℕ). record { payload = new_payload r; wallet = empty_purse 12; slot = free_place v.slots; txn = x; own = slip v.book (name_of e.0 16) 1 }) room
            ∙ ap (λ (o : Slip). record { payload = new_payload 4096; wallet = empty_purse 12; slot = free_place v.slots; txn = x; own = o }) (token_is frame tokens number own x may.pool v a.met.built_for (name_of e.0 16))
            ∙ ap (λ (k : ℕ). record { payload = new_payload 4096; wallet = empty_purse 12; slot = k; txn = x; own = reference frame.world tokens x e.0 16 }) (sym slot);
      }

  -- where all slots are live, the ticket comes back
  pub ticket_back : (back : View Content Plan) (t : Ticket) (left : Option Ticket) → HasPooledWith frame tokens number own note back (Take x at) (Some t) (Took None) left → left ≡ Some t
  ticket_back back t left a = a.left_is ∙ ap (λ (z : Option ℕ). unspent z (Some t)) (by a.pooled.position refl a.pooled.enters.when)
    where
      by : (z : Option ℕ) → a.pooled.position ≡ z → MatchOption z (has_free a.pooled.before ≡ false) (λ _. has_free a.pooled.before ≡ true) → a.pooled.position ≡ None
      by None q full = q
      by (Some z) q free = absurd (differ (sym free ∙ a.pooled.applied.0))
        where
          differ : true ≡ false → ⊥
          differ e = cc

-- ACQUIRE
module _ (frame : Frame Plan) (tokens : TableId) (number own : ℕ) (b : Baton) (at : ℕ) (note : View Content Plan) (may : MayAcquire frame tokens number b at note.known) where
  abbrev owner : TxnId
  owner = b.txn

  own_name : b.own.name ≡ 32 * may.position + (16 + may.count)
  own_name = ap (λ (s : Slip). s.name) may.own

  count_is : acquired_of b.own.name ≡ may.count
  count_is = let f = may.few in ap (λ (n : ℕ). n % 16) own_name ∙ count_of_own may.position may.count (omega (arith, f))

  place_is : b.own.name / 32 ≡ may.position
  place_is = let f = may.few in ap (λ (n : ℕ). n / 32) own_name ∙ place_of_own may.position may.count (omega (arith, f))

  took_at : Finds (Known frame.world.platform note.known) (IsTakenAt owner may.position)
  took_at = (let f = may.taken in record { event = f.event; known = f.known; is = record { slot = b.slot; take = f.is } })

  module _ (w : Purse) where
    abbrev paying : Baton
    paying = record b { wallet = w }

    pub acquire_fits : (v : PoolView) → IsBuiltFor IsPoolBuilt (place frame tokens number own) (built_of v) → Fits v (Acquire paying at)
    acquire_fits v built = (out frame tokens number own owner may.pool v built b.own (32 * may.position + (16 + may.count)) may.own, subst (λ (n : ℕ). n < 15) (sym count_is) may.few)

    acquire_is : (v : PoolView) → MeetsPool frame tokens number own note.known v → (q : ℕ) → is_out v b.own.name ≡ true → IsAcquire owner may.count (event_of frame.world.platform (placed number (wrote q (content_of v (Acquire paying at)))))
    acquire_is v meets q there = record {
      object = object_is frame tokens number own owner may.pool;
      txn = slot_txn frame tokens number own owner may.pool note v meets b.own.name may.position there place_is took_at;
      number = count_is;
      slot = slot_place b.own.name v.slots;
      what = refl;
    }

    pub acquire_backed : (v : PoolView) (q : ℕ) → MeetsPool frame tokens number own note.known v → is_out v b.own.name ≡ true → Backs frame.world (map (placed number) (map written_by v.log.events) ++ note.known) (placed number (wrote q (content_of v (Acquire paying at))))
    acquire_backed v q meets there =
        let a = acquire_is v meets q there in
        with_log frame tokens number own owner may.pool note v (placed number (wrote q (content_of v (Acquire paying at))))
        (backed_as (world_of frame.world) (Known frame.world.platform note.known) owner may.pass may.passes (event_of frame.world.platform (placed number (wrote q (content_of v (Acquire paying at))))) (Pool owner.initiator) may.count (Whats.Acquire a.slot) a.txn a.object a.number a.what
        (refl, may.after))

    pub acquired : (back : View Content Plan) (new : Baton) (hold : Slip) → HasPooled frame tokens number own note back (Acquire paying at) (Acquired new hold) → Pulls tokens number 0 b.wallet w → HasAcquired frame tokens number b at may.position may.count new hold back.known
    acquired back new hold a pulls =
        let v = a.before in
        let r = a.applied in
        let e = added frame number _ _ (is_out v b.own.name) (content_of v (Acquire paying at)) note back a.position a.enters r.was in
        let next : slip v.book (b.own.name + 1) 1 ≡ reference frame.world tokens owner may.position (16 + (may.count + 1)) =
        token_is frame tokens number own owner may.pool v a.met.built_for (b.own.name + 1) ∙ ap (named frame tokens number own owner may.pool) (ap (λ (n : ℕ). n + 1) own_name ∙ next_own may.position may.count) in
        let held : slip v.book (b.own.name - 16) 1 ≡ reference frame.world tokens owner may.position may.count =
        token_is frame tokens number own owner may.pool v a.met.built_for (b.own.name - 16) ∙ ap (named frame tokens number own owner may.pool) (ap (λ (n : ℕ). n - 16) own_name ∙ next_hold may.position may.count) in
        let wallet : new.wallet ≡ w = ap (λ (d : Baton). d.wallet) r.baton in
        record {
          made = record {
            event = event_of frame.world.platform (placed number (wrote e.0 (content_of v (Acquire paying at))));
            known = record { entry = placed number (wrote e.0 (content_of v (Acquire paying at))); has = e.1.1; is = refl };
            is = acquire_is v a.met e.0 r.was;
            time = refl;
          };
          baton = r.baton ∙ ap (λ (o : Slip). record b { wallet = w; own = o }) next ∙ ap (λ (u : Purse). record b { wallet = u; own = reference frame.world tokens owner may.position (16 + (may.count + 1)) }) (sym wallet);
          held = r.held ∙ held;
          pulls = subst (Pulls tokens number 0 b.wallet) (sym wallet) pulls;
        }

-- RELEASE
module _ (frame : Frame Plan) (tokens : TableId) (number own : ℕ) (hold : Slip) (at : ℕ) (note : View Content Plan) (may : MayRelease frame tokens number hold at note.known) where
  hold_name : hold.name ≡ 32 * may.position + may.count
  hold_name = ap (λ (s : Slip). s.name) may.is

  hold_number : reference_number hold.name ≡ may.count
  hold_number = ap (λ (n : ℕ). min (n % 32) 15) hold_name ∙ number_of_hold may.position may.count may.few

  hold_place : hold.name / 32 ≡ may.position
  hold_place = ap (λ (n : ℕ). n / 32) hold_name ∙ place_of_hold may.position may.count may.few

  pub release_fits : (v : PoolView) → IsBuiltFor IsPoolBuilt (place frame tokens number own) (built_of v) → Fits v (Release hold at)
  release_fits v built = out frame tokens number own may.x may.pool v built hold (32 * may.position + may.count) may.is

  pub release_backed : (v : PoolView) (q : ℕ) → MeetsPool frame tokens number own note.known v → is_out v hold.name ≡ true → Backs frame.world (map (placed number) (map written_by v.log.events) ++ note.known) (placed number (wrote q (content_of v (Release hold at))))
  release_backed v q meets there =
      let r = released_by frame tokens number own may.x may.pool note v meets hold may.position may.count at q there hold_place hold_number may.taken in
      with_log frame tokens number own may.x may.pool note v (placed number (wrote q (content_of v (Release hold at))))
      (backed_as (world_of frame.world) (Known frame.world.platform note.known) may.x may.pass may.passes (event_of frame.world.platform (placed number (wrote q (content_of v (Release hold at))))) (Pool may.x.initiator) may.count (Whats.Release r.slot (is_last v hold.name)) r.txn
      r.object r.number r.what (refl, may.after))

  pub released : (back : View Content Plan) (freed : Bool) → HasPooled frame tokens number own note back (Release hold at) (Released freed) → HasReleased frame may.x may.count at freed back.known
  released back freed a =
      let v = a.before in
      let r = a.applied in
      let e = added frame number _ _ (is_out v hold.name) (content_of v (Release hold at)) note back a.position a.enters r.was in
      record {
        event = event_of frame.world.platform (placed number (wrote e.0 (content_of v (Release hold at))));
        known = record { entry = placed number (wrote e.0 (content_of v (Release hold at))); has = e.1.1; is = refl };
        is = subst (λ (f : Bool). IsRelease may.x may.count f (event_of frame.world.platform (placed number (wrote e.0 (content_of v (Release hold at)))))) (sym r.last)
            (released_by frame tokens number own may.x may.pool note v a.met hold may.position may.count at e.0 r.was hold_place hold_number may.taken);
        time = refl;
      }

-- STOW
module _ (frame : Frame Plan) (tokens : TableId) (number own : ℕ) (b : Baton) (at : ℕ) (note : View Content Plan) (may : MayStow frame tokens number b at note.known) where
  stowed_name : b.own.name ≡ 32 * may.position + (16 + may.count)
  stowed_name = ap (λ (s : Slip). s.name) may.own

  stowed_number : reference_number b.own.name ≡ 15
  stowed_number = ap (λ (n : ℕ). min (n % 32) 15) stowed_name ∙ number_of_own may.position may.count may.few

  stowed_place : b.own.name / 32 ≡ may.position
  stowed_place = ap (λ (n : ℕ). n / 32) stowed_name ∙ place_of_own may.position may.count may.few

  pub stow_fits : (v : PoolView) → IsBuiltFor IsPoolBuilt (place frame tokens number own) (built_of v) → Fits v (Stow b at)
  stow_fits v built = (
    out frame tokens number own b.txn may.pool v built b.own (32 * may.position + (16 + may.count)) may.own,
    record { payload = may.room ∙ sym built.world.room; wallet = may.spent },
  )

  pub stow_backed : (v : PoolView) (q : ℕ) → MeetsPool frame tokens number own note.known v → is_out v b.own.name ≡ true → Backs frame.world (map (placed number) (map written_by v.log.events) ++ note.known) (placed number (wrote q (content_of v (Stow b at))))
  stow_backed v q meets there =
      let x = b.txn in
      let r = released_by frame tokens number own b.txn may.pool note v meets b.own may.position 15 at q there stowed_place stowed_number may.taken in
      with_log frame tokens number own b.txn may.pool note v (placed number (wrote q (content_of v (Stow b at))))
      (backed_as (world_of frame.world) (Known frame.world.platform note.known) b.txn may.pass may.passes (event_of frame.world.platform (placed number (wrote q (content_of v (Stow b at))))) (Pool x.initiator) 15 (Whats.Release r.slot (is_last v b.own.name)) r.txn
      r.object r.number r.what (refl, may.after))

  pub stowed : (back : View Content Plan) (freed : Bool) → HasPooled frame tokens number own note back (Stow b at) (Released freed) → HasReleased frame b.txn 15 at freed back.known
  stowed back freed a =
      let v = a.before in
      let r = a.applied in
      let e = added frame number _ _ (is_out v b.own.name) (content_of v (Stow b at)) note back a.position a.enters r.was in
      record {
        event = event_of frame.world.platform (placed number (wrote e.0 (content_of v (Stow b at))));
        known = record { entry = placed number (wrote e.0 (content_of v (Stow b at))); has = e.1.1; is = refl };
        is = subst (λ (f : Bool). IsRelease b.txn 15 f (event_of frame.world.platform (placed number (wrote e.0 (content_of v (Stow b at)))))) (sym r.last)
            (released_by frame tokens number own b.txn may.pool note v a.met b.own may.position 15 at e.0 r.was stowed_place stowed_number may.taken);
        time = refl;
      }
