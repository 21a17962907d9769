-- The log that each object left is its part of the history, and all of them make the history.
use Rattle.std.proofs.Common.{◌≡◌, ℕ, zero, suc, ◌+◌, ◌<◌, List, [], ◌∷◌, length, map, Some, refl, ap, sym, subst, ◌∙◌, arith}
use Rattle.std.specs.Prelude.{slice_get}
use mathlib.Core.Option.{some, some-ne-none, some-injective}
use lib.ListN.{get_elem?}
use Rattle.atomic_table.specs.Seated.{TableId}
use Rattle.view_lists.specs.Lists.{Has}
use Rattle.view_lists.proofs.Members.{has_map}
use Rattle.view_lists.proofs.Places.{at_once}
use Rattle.one_history.specs.declared.entry.Entry.{Entry as HistoryEntry}
use Rattle.one_history.specs.declared.view.Frame.{Frame}
use Rattle.one_history.specs.Held.{Held}
use Rattle.one_history.specs.Lists.{entries_at as history_at}
use Rattle.one_history.specs.Moves.{own_of}
use Rattle.shared_object.specs.Written.{placed}
use Rattle.tlm_types.specs.declared.entry.Content.{Content}
use Rattle.tlm_types.specs.declared.entry.Entry.{Entry}
use Rattle.tlm_types.specs.declared.words.ObjectNo.{ObjectNo}
use Rattle.tlm_types.specs.declared.words.ObjectNo.TheVariants.{Memory, Hop, Pool}
use Rattle.tlm_model.specs.declared.platform.Platform.{Platform}
use Rattle.tlm_model.specs.History.{IsNumberedFrom, entries_at, is_object}
use Rattle.tlm_model.specs.Plan.{Plan}
use Rattle.region_object.specs.Written.{written_from}
use Rattle.numbered_log.specs.Logged.{written_by}
use Rattle.flow_model.specs.Events.{Event, entries}
use Rattle.good_history.specs.Counting.{IsRising}
use Rattle.good_history.proofs.CountLemmas.{IsRising-filter, has_kept, kept_has}
use Rattle.cargo_model.specs.Known.{event_of, object_number, objects_of}
use Rattle.cargo_model.proofs.Origins.{is_self, is_that}
use Rattle.cargo_net.proofs.Lists.{read_there}
use Rattle.cargo_net.proofs.ObjectsOnce.{stands_once}
use Rattle.net_end.specs.Closed.{IsLeft, events_in}
use Rattle.net_end.proofs.Reading.{at_number, entries_read as entries_of_events, log_read, memory_read, there}
use Rattle.plat_end.specs.Apart.{entries_left}
use Rattle.run_outcome.specs.Merge.{merged}
use Rattle.run_outcome.proofs.ListLemmas.{has_element, within}
use Rattle.plat_end.specs.Entries.{entries_read, entry_read}
use Rattle.dmi_grants.specs.Known.{position_of}
use Rattle.plat_end.proofs.OrderLemmas.{merged_is, rising_from}

-- the entries of a history as events are those that are read
pub as_read : (p : Platform) (all : List (HistoryEntry Content)) → entries (events_in p all) ≡ entries_read p all
as_read p [] = refl
as_read p (e ∷ all) = ap (λ (l : List Entry). entry_read p e ∷ l) (as_read p all)

-- each entry that is read stands at one of the objects
pub object_read : (p : Platform) (all : List (HistoryEntry Content)) → ((e : HistoryEntry Content) → Has all e → e.object < length (objects_of p)) → (e : Entry) → Has (entries (events_in p all)) e → (k : ℕ) × (slice_get (objects_of p) k ≡ Some e.object)
object_read p all below e has =
    let from = has_map (entry_read p) all e (subst (λ (l : List Entry). Has l e) (as_read p all) has) in
    let found = there (objects_of p) from.0.object (below from.0 from.1) in
    let object : e.object ≡ found.0 = ap (λ (x : Entry). x.object) (sym from.2) ∙ read_there (objects_of p) from.0.object found.0 (Hop 0) found.1 in
    (from.0.object, found.1 ∙ ap (λ (o : ObjectNo). Some o) (sym object))

-- the part of an object is what it left
pub part_left : (table : TableId) (frame : Frame Plan) (all : List (HistoryEntry Content)) → ((e : HistoryEntry Content) → Has all e → e.object < length (objects_of frame.world.platform))
    → (k : ℕ) (o : ObjectNo) (seat : Held Content Plan) (left : IsLeft table frame o seat) → slice_get (objects_of frame.world.platform) k ≡ Some o → history_at k all ≡ own_of seat.knows
    → entries_at o (entries (events_in frame.world.platform all)) ≡ entries_left table frame o seat left
part_left table frame all below k (Memory m) seat left here part =
    let p : Platform = frame.world.platform in
    let number : object_number p (Memory m) ≡ k = sym (stands_once p k (Memory m) here) in
    entries_of_events (Memory m) (events_in p all)
    ∙ (ap entries (at_number p k (Memory m) here all below ∙ ap (map (event_of p)) (part ∙ left.seat_is.own))
    ∙ (ap (λ (n : ℕ). entries (map (event_of p) (map (placed n) (written_from 0 left.log)))) number ∙ memory_read p k m here 0 left.log left.own))
part_left table frame all below k (Hop h) seat left here part =
    let p : Platform = frame.world.platform in
    let number : object_number p (Hop h) ≡ k = sym (stands_once p k (Hop h) here) in
    let log = left.hop.log.events in
    let own = subst (λ (n : ℕ). Rattle.std.specs.Prelude.All (λ (e : Event). e.object ≡ Hop n) log) left.number left.follows.own in
    entries_of_events (Hop h) (events_in p all)
    ∙ ap entries
    (at_number p k (Hop h) here all below ∙ (ap (map (event_of p)) (part ∙ left.seat_is.own)
    ∙ (ap (λ (n : ℕ). map (event_of p) (map (placed n) (map written_by log))) number ∙ log_read p k (Hop h) here log own)))
part_left table frame all below k (Pool i) seat left here part =
    let p : Platform = frame.world.platform in
    let number : object_number p (Pool i) ≡ k = sym (stands_once p k (Pool i) here) in
    let log = left.pool.log.events in
    let own = subst (λ (n : ℕ). Rattle.std.specs.Prelude.All (λ (e : Event). e.object ≡ Pool n) log) left.number left.is.follows.own in
    entries_of_events (Pool i) (events_in p all)
    ∙ ap entries
    (at_number p k (Pool i) here all below ∙ (ap (map (event_of p)) (part ∙ left.seat_is.own)
    ∙ (ap (λ (n : ℕ). map (event_of p) (map (placed n) (map written_by log))) number ∙ log_read p k (Pool i) here log own)))

-- an entry stands at its position
place_from : (n : ℕ) (l : List Entry) → IsNumberedFrom n l → (k : ℕ) (e : Entry) → get_elem? l k ≡ some e → n + k ≡ e.position
place_from n [] is k e at = absurd (some-ne-none e (sym at))
place_from n (x ∷ l) is zero e at = let first = is.0 in let same = ap position_of (some-injective x e at) in omega arith
place_from n (x ∷ l) is (suc k) e at = let rest = place_from (n + 1) l is.1 k e at in omega arith

-- a position has one entry
one_entry : (h : List Entry) → IsNumberedFrom 0 h → (x y : Entry) → Has h x → Has h y → x.position ≡ y.position → x ≡ y
one_entry h numbered x y has_x has_y same =
    let at_x = place_from 0 h numbered has_x.0 x has_x.1 in
    let at_y = place_from 0 h numbered has_y.0 y has_y.1 in
    let place : has_x.0 ≡ has_y.0 = omega arith in
    at_once h has_y.0 x y (subst (λ (k : ℕ). get_elem? h k ≡ some x) place has_x.1) has_y.1

-- Where each object has one log, which is its part of a history, and each entry stands at one of them, the merged logs are the history.
module _ (h : List Entry) (os : List ObjectNo) (logs : List (List Entry)) (numbered : IsNumberedFrom 0 h) (count : length logs ≡ length os)
    (once : (j k : ℕ) (o : ObjectNo) → slice_get os j ≡ Some o → slice_get os k ≡ Some o → j ≡ k)
    (parts : (k : ℕ) (o : ObjectNo) (log : List Entry) → slice_get os k ≡ Some o → slice_get logs k ≡ Some log → entries_at o h ≡ log)
    (placed_at : (e : Entry) → Has h e → (k : ℕ) × (slice_get os k ≡ Some e.object)) where
  rising : IsRising position_of h
  rising = (rising_from 0 h numbered).0

  -- what a log has stands in the history, at its object
  record IsAt (k : ℕ) (e : Entry) : Type 0 where
    pub here : slice_get os k ≡ Some e.object
    pub has : Has h e

  at_object : (k : ℕ) (log : List Entry) (e : Entry) → slice_get logs k ≡ Some log → Has log e → IsAt k e
  at_object k log e at has =
      let o = has_element os k (let b = within logs k log at in omega (arith, count)) in
      let kept = has_kept (λ (x : Entry). is_object o.element x.object) h e (subst (λ (l : List Entry). Has l e) (sym (parts k o.element log o.at at)) has) in
      record { here = o.at ∙ ap (λ (x : ObjectNo). Some x) (sym (is_that o.element e.object kept.1)); has = kept.0 }

  log_rises : (k : ℕ) (log : List Entry) → slice_get logs k ≡ Some log → IsRising position_of log
  log_rises k log at =
      let o = has_element os k (let b = within logs k log at in omega (arith, count)) in
      subst (IsRising position_of) (parts k o.element log o.at at) (IsRising-filter (λ (e : Entry). is_object o.element e.object) position_of h rising)

  logged : (e : Entry) → Has h e → (k : ℕ) × (log : List Entry) × (slice_get logs k ≡ Some log) × Has log e
  logged e has =
      let place = placed_at e has in
      let log = has_element logs place.0 (let b = within os place.0 e.object place.1 in omega (arith, count)) in (
        place.0,
        log.element,
        log.at,
        subst (λ (l : List Entry). Has l e) (parts place.0 e.object log.element place.1 log.at) (kept_has (λ (x : Entry). is_object e.object x.object) h e has (is_self e.object)),
      )

  one_log : (j k : ℕ) (a b : List Entry) (x y : Entry) → slice_get logs j ≡ Some a → slice_get logs k ≡ Some b → Has a x → Has b y → y.position ≡ x.position → j ≡ k
  one_log j k a b x y first second has_x has_y same =
      let x_is = at_object j a x first has_x in
      let y_is = at_object k b y second has_y in
      let one : y ≡ x = one_entry h numbered y x y_is.has x_is.has same in
      once j k x.object x_is.here (y_is.here ∙ ap (λ (e : Entry). Some e.object) one)

  pub merged_parts : merged logs ≡ h
  merged_parts = merged_is h logs rising (λ k log at. (log_rises k log at, λ e has. (at_object k log e at has).has)) logged one_log
