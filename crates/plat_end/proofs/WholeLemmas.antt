-- What all jobs and all objects have left makes the outcome.
use Rattle.std.proofs.Common.{◌≡◌, ℕ, zero, suc, ◌<◌, List, [], ◌∷◌, length, Some, true, refl, ap, sym, subst, ◌∙◌, arith}
use Rattle.std.specs.Prelude.{slice_get, slice_index_or, All}
use Rattle.std.proofs.lemmas.List.{length-map}
use Rattle.std.proofs.lemmas.Option.{get_or_from_slice_get}
use mathlib.Core.Option.{some}
use lib.ListN.{get_elem?}
use Rattle.atomic_table.specs.Seated.{TableId}
use Rattle.view_lists.specs.Lists.{Has}
use Rattle.view_lists.proofs.Places.{at_short}
use Rattle.one_history.specs.declared.entry.Entry.{Entry as HistoryEntry}
use Rattle.one_history.specs.declared.view.Frame.{Frame}
use Rattle.one_history.specs.Closing.{AreBacked, ArePlanned}
use Rattle.one_history.specs.Gates.{NoneAfterClosed}
use Rattle.one_history.specs.Held.{Held}
use Rattle.one_history.specs.Moves.{number_of}
use Rattle.one_history.specs.Seats.{AreNotes, AreSeats, IsMerge, Tell}
use Rattle.token_book.specs.Purse.{IsOf, Purse}
use Rattle.tlm_types.specs.declared.ends.EndOf.{EndOf}
use Rattle.tlm_types.specs.declared.entry.Content.{Content}
use Rattle.tlm_types.specs.declared.entry.Entry.{Entry}
use Rattle.tlm_types.specs.declared.words.ObjectNo.{ObjectNo}
use Rattle.tlm_types.specs.declared.words.ObjectNo.TheVariants.{Memory, Hop, Pool}
use Rattle.entry_log.specs.Log.{LogView}
use Rattle.tlm_model.specs.History.{IsNumbered, entries_at, last_store}
use Rattle.tlm_model.specs.Plan.{Plan, initiators_of}
use Rattle.flow_model.specs.Events.{entries}
use Rattle.flow_model.specs.Valid.{HasNoCycle}
use Rattle.good_history.specs.Kept.{EndsGrants, KeepsGrants}
use Rattle.good_history.specs.Good.{IsGood}
use Rattle.good_history.proofs.StoreLemmas.{logs_make_last_store}
use Rattle.joined_traffic.specs.Ended.{HaveLeft}
use Rattle.joined_traffic.proofs.FinalLemmas.{ended_is_good, ended_is_sound}
use Rattle.report_model.specs.Ends.{IsEndOf}
use Rattle.route_plan.specs.Valid.{IsValid}
use Rattle.route_plan.proofs.ShareLemmas.{count_initiators}
use Rattle.cargo_model.specs.Known.{object_number, objects_of}
use Rattle.cargo_net.specs.Traffic.{Backs}
use Rattle.cargo_net.proofs.ObjectsOnce.{stands_once}
use Rattle.plat_net.specs.Objects.{frame_of}
use Rattle.plat_net.proofs.NoCycle.{shapes_law}
use Rattle.plat_net.proofs.NumberLemmas.{memory_there}
use Rattle.plat_net.proofs.ObjectLemmas.{count_planned, planned_at_object}
use Rattle.net_end.specs.Closed.{AreLeft, IsClosed, IsLeft, IsPlanned, events_in}
use Rattle.net_end.specs.Finished.{HasEndedWhole, IsDone}
use Rattle.net_end.specs.Done.{IsDoneWithGrants}
use Rattle.net_end.proofs.Closing.{closed_has_grants}
use Rattle.net_end.proofs.Wholes.{without_grants}
use Rattle.net_end.proofs.Finishing.{initiators_end}
use Rattle.net_end.proofs.Leaving.{objects_leave}
use Rattle.net_end.proofs.Reading.{is_there}
use Rattle.plat_end.specs.Apart.{left_by, left_with}
use Rattle.plat_build.specs.Kept.{HasNoOthers}
use Rattle.run_outcome.specs.declared.outcome.Outcome.{Outcome}
use Rattle.run_outcome.specs.Merge.{merged}
use Rattle.run_outcome.specs.Outcome.{IsWhole}
use Rattle.run_outcome.specs.Places.{entries_of_logs}
use Rattle.run_outcome.proofs.ListLemmas.{at_map, has_element, within}
use Rattle.net_end.specs.Leaves.{IsFinished}
use Rattle.plat_end.specs.End.{AreFinished, HaveAllLeft}
use Rattle.plat_end.specs.Entries.{entries_read, entry_read}
use Rattle.plat_end.specs.Run.{IsCoreRun}
use Rattle.plat_end.proofs.LogLemmas.{as_read, merged_parts, object_read, part_left}

-- what stands at a place of a list
record IsThere {A : Type 0} (l : List A) (k : ℕ) : Type 0 where
  pub item : A
  pub at : get_elem? l k ≡ some item

item_there : {A : Type 0} (l : List A) (k : ℕ) → k < length l → IsThere l k
item_there [] k below = absurd (omega arith)
item_there (x ∷ l) zero below = record { item = x; at = refl }
item_there (x ∷ l) (suc k) below = let rest = item_there l k (omega arith) in record { item = rest.item; at = rest.at }

-- a plan's history is made with room for what is planned of each object
pub plan_is : (frame : Frame Plan) → frame ≡ frame_of frame.world → IsPlanned frame
plan_is frame is = record {
  count = ap (λ (f : Frame Plan). length f.planned) is ∙ count_planned frame.world;
  each = λ k o at. ap (λ (f : Frame Plan). slice_index_or f.planned k 0) is ∙ planned_at_object frame.world k o at;
}

-- the seat of an object that is done with
record IsSeated (table : TableId) (frame : Frame Plan) (o : ObjectNo) (seat : Held Content Plan) : Type 0 where
  pub of : seat.table ≡ table
  pub framed : seat.knows.frame ≡ Some frame
  pub numbered : number_of seat.knows ≡ object_number frame.world.platform o

seated : (table : TableId) (frame : Frame Plan) (o : ObjectNo) (seat : Held Content Plan) → IsLeft table frame o seat → IsSeated table frame o seat
seated table frame (Memory m) seat left = record { of = left.seat_is.of; framed = left.seat_is.framed; numbered = left.seat_is.numbered }
seated table frame (Hop h) seat left = record { of = left.seat_is.of; framed = left.seat_is.framed; numbered = left.seat_is.numbered }
seated table frame (Pool i) seat left = record { of = left.seat_is.of; framed = left.seat_is.framed; numbered = left.seat_is.numbered }

-- the seats of all objects, in order
pub are_seats : (table : TableId) (frame : Frame Plan) (seats : List (Held Content Plan)) → AreLeft table frame seats → AreSeats table frame seats
are_seats table frame seats left k seat at =
    let o = has_element (objects_of frame.world.platform) k (let b = at_short seats k seat at in let c = left.count in omega arith) in
    let is = seated table frame o.element seat (left.each k o.element seat o.at at) in
    (is.of, is.framed, is.numbered ∙ sym (stands_once frame.world.platform k o.element o.at))

-- and as many as there is room planned for
pub count_seats : (table : TableId) (frame : Frame Plan) (seats : List (Held Content Plan)) → frame ≡ frame_of frame.world → AreLeft table frame seats → length seats ≡ length frame.planned
count_seats table frame seats is left = left.count ∙ sym (plan_is frame is).count

-- what an initiator leaves, by its place
-- what is told by some notes is told by those of them that are kept
pub tells : (kept notes : List (Held Content Plan)) (all : List (HistoryEntry Content)) → ((k : ℕ) (note : Held Content Plan) → get_elem? kept k ≡ some note → Has notes note) → Tell notes 0 all → Tell kept 0 all
tells kept notes all told tell k note from at = let there = told k note at in tell there.0 note (omega arith) there.1

module _ (table tokens : TableId) (p : Plan) (count : ℕ) (ends : List EndOf) (wallets : List Purse) (notes : List (Held Content Plan)) (are : AreFinished table tokens p count ends wallets notes) where
  pub record Leaves (k : ℕ) : Type 0 where
    pub end : EndOf
    pub wallet : Purse
    pub note : Held Content Plan
    pub end_at : slice_get ends k ≡ Some end
    pub wallet_at : slice_get wallets k ≡ Some wallet
    pub note_at : get_elem? notes k ≡ some note
    pub is : IsFinished table tokens p k end note wallet

  pub leaves : (k : ℕ) → k < count → Leaves k
  leaves k below =
      let end = has_element ends k (let c = are.ends_count in omega arith) in
      let wallet = has_element wallets k (let c = are.wallets_count in omega arith) in
      let note = item_there notes k (let c = are.notes_count in omega arith) in
      record {
        end = end.element;
        wallet = wallet.element;
        note = note.item;
        end_at = end.at;
        wallet_at = wallet.at;
        note_at = note.at;
        is = are.each k end.element wallet.element note.item end.at wallet.at note.at;
      }

  all_wallets : (P : Purse → Type 0) → ((k : ℕ) (l : Leaves k) → P l.wallet) → All P wallets
  all_wallets P each k d below =
      let l = leaves k (let c = are.wallets_count in omega arith) in
      subst P (sym (get_or_from_slice_get wallets k l.wallet d l.wallet_at)) (each k l)

  -- the wallets hold tickets of this run alone, and of its objects alone
  pub wallets_of : All (IsOf tokens) wallets
  wallets_of = all_wallets (IsOf tokens) (λ k l. l.is.wallet_of)

  pub wallets_no_others : All (HasNoOthers p.platform) wallets
  wallets_no_others = all_wallets (HasNoOthers p.platform) (λ k l. l.is.no_others)

  -- the notes are of this history
  pub are_notes : AreNotes table notes
  are_notes k note at =
      let l = leaves k (let b = at_short notes k note at in let c = are.notes_count in omega arith) in
      (are.each k l.end l.wallet note l.end_at l.wallet_at at).note_of.of

  -- each initiator is done, in a history that has what the notes know
  pub is_done : (all : List (HistoryEntry Content)) → Tell notes 0 all → (k : ℕ) (end : EndOf) → k < count → slice_get ends k ≡ Some end → IsDoneWithGrants p (events_in p.platform all) k (left_by p.platform wallets k) end
  is_done all tell k end below at =
      let l = leaves k below in
      let done = (are.each k end l.wallet l.note at l.wallet_at l.note_at).done all (tell k l.note (omega arith) l.note_at) in
      subst (λ (w : _). IsDoneWithGrants p (events_in p.platform all) k (λ o. left_with p.platform o w) end) (sym l.wallet_at) done

module _ (table tokens : TableId) (frame : Frame Plan) (ends : List EndOf) (notes : List (Held Content Plan)) (logs : List LogView) (stores : List (List ℕ)) (seats : List (Held Content Plan)) (all : List (HistoryEntry Content))
    (valid : IsValid frame.world) (is_frame : frame ≡ frame_of frame.world) (left : HaveAllLeft table tokens frame ends notes logs stores seats)
    (made : Frame Plan) (made_is : made ≡ frame) (merge : IsMerge seats all) (planned_made : ArePlanned made all) (tell : Tell notes 0 all) (backed_made : AreBacked Backs made.world all) (last : NoneAfterClosed all) where
  abbrev p : Plan
  p = frame.world

  abbrev os : List ObjectNo
  os = objects_of p.platform

  abbrev h : List Entry
  h = entries (events_in p.platform all)

  abbrev rest : ℕ → ObjectNo → ℕ
  rest = left_by p.platform left.wallets

  abbrev no_end : EndOf
  no_end = record { transactions = 0; syncs = 0; end = 0; refused = record { items = []; room = 0 } }

  abbrev end_of : ℕ → EndOf
  end_of k = slice_index_or ends k no_end

  planned : ArePlanned frame all
  planned = subst (λ (f : Frame Plan). ArePlanned f all) made_is planned_made

  backed : AreBacked Backs frame.world all
  backed = subst (λ (f : Frame Plan). AreBacked Backs f.world all) made_is backed_made

  closed : IsClosed frame seats notes all
  closed = record { merge = merge; planned = planned; told = tell; backed = backed }

  acyclic : HasNoCycle p.platform
  acyclic = shapes_law p.platform valid.shape

  have_left : HaveLeft p (events_in p.platform all) rest
  have_left = objects_leave table frame seats notes all rest (plan_is frame is_frame) closed left.left left.handed_back

  initiators : length (initiators_of p) ≡ length p.platform.initiators
  initiators = count_initiators 0 p.platform.initiators p.scripts valid.scripts

  done_with_grants : (k : ℕ) → k < length (initiators_of p) → IsDoneWithGrants p (events_in p.platform all) k (rest k) (end_of k)
  done_with_grants k below =
      let finished = left.finished in
      let same = initiators in
      let end = has_element ends k (let c = finished.ends_count in omega arith) in
      let here : end_of k ≡ end.element = get_or_from_slice_get ends k end.element no_end end.at in
      subst (IsDoneWithGrants p (events_in p.platform all) k (rest k)) (sym here) (is_done table tokens p (length p.platform.initiators) ends left.wallets notes finished all tell k end.element (omega arith) end.at)

  done : (k : ℕ) → k < length (initiators_of p) → IsDone p (events_in p.platform all) k (rest k) (end_of k)
  done k below = without_grants p (events_in p.platform all) k (rest k) (end_of k) (done_with_grants k below)

  -- the whole run has ended
  whole_run : HasEndedWhole p (events_in p.platform all) rest end_of
  whole_run = initiators_end p (events_in p.platform all) rest end_of acyclic have_left done

  grants : KeepsGrants p h × EndsGrants p h
  grants = closed_has_grants table frame seats notes all rest end_of acyclic (plan_is frame is_frame) closed last left.left left.handed_back done_with_grants

  pub good : IsGood p h
  good = let w = whole_run in ended_is_good p (events_in p.platform all) w.issued w.ends w.calls w.mine rest acyclic w.ended w.was_issued grants.0 grants.1

  pub core : IsCoreRun p h
  core n = let w = whole_run in ended_is_sound p (events_in p.platform all) w.issued w.ends w.calls w.mine rest acyclic w.ended w.was_issued grants.0 n

  below_all : (e : HistoryEntry Content) → Has all e → e.object < length os
  below_all = is_there frame all (plan_is frame is_frame) planned

  -- each log is the part of its object
  part_at : (k : ℕ) (o : ObjectNo) (log : LogView) → slice_get os k ≡ Some o → slice_get logs k ≡ Some log → entries_at o h ≡ log.entries
  part_at k o log here at =
      let seat = item_there seats k (let b = within logs k log at in let c = left.logs_left.count in omega arith) in
      let is = left.logs_left.each k o log seat.item here at seat.at in
      part_left table frame all below_all k o seat.item is.left here (merge.1 k seat.item seat.at) ∙ sym is.log_is

  pub merged_all : merged (entries_of_logs logs) ≡ h
  merged_all = merged_parts h os (entries_of_logs logs) have_left.numbered
      (length-map logs (λ (log : LogView). log.entries) ∙ (left.logs_left.count ∙ left.left.count))
      (λ j k o first second. stands_once p.platform j o first ∙ sym (stands_once p.platform k o second))
      (λ k o log here at.
      let found = has_element logs k (let b = within (entries_of_logs logs) k log at in omega (arith, length-map logs (λ (l : LogView). l.entries))) in
      part_at k o found.element here found.at ∙ same_list found.element.entries log (sym (at_map (λ (l : LogView). l.entries) logs k found.element found.at) ∙ at))
      (object_read p.platform all below_all)
    where
      same_list : (a b : List Entry) → Some a ≡ Some b → a ≡ b
      same_list a b q = cc

  -- the bytes of a memory are those that the history leaves there
  bytes_at : (m : ℕ) (bytes : List ℕ) → slice_get stores m ≡ Some bytes → bytes ≡ last_store p.platform h m
  bytes_at m bytes at =
      let below : m < length p.platform.memories = (let b = within stores m bytes at in let c = left.stores_are.count in omega arith) in
      let here = memory_there p.platform m below in
      let row = has_element p.platform.memories m below in
      let log = has_element logs m (let b = within os m (Memory m) here in let c = left.logs_left.count in let d = left.left.count in omega arith) in
      left.stores_are.each m row.element log.element bytes row.at log.at at
      ∙ (ap (λ (l : List Entry). Rattle.tlm_model.specs.Log.log_bytes row.element.traits l) (sym (part_at m (Memory m) log.element here log.at))
      ∙ sym (logs_make_last_store p.platform h m row.element row.at))

  -- the outcome is that of a whole run
  pub whole : (o : Outcome) → o.history.entries ≡ merged (entries_of_logs logs) → o.stores ≡ stores → o.ends ≡ ends → o.complete ≡ true → IsWhole p o
  whole o history stored ended complete =
      let same : h ≡ o.history.entries = sym (history ∙ merged_all) in
      let finished = left.finished in
      record {
        complete = complete;
        good = subst (IsGood p) same good;
        reportable = record {
          scripts = valid.scripts;
          memories = ap length stored ∙ left.stores_are.count;
          stores = λ m bytes at. bytes_at m bytes (subst (λ (l : List (List ℕ)). slice_get l m ≡ Some bytes) stored at) ∙ ap (λ (l : List Entry). last_store p.platform l m) same;
          initiators = ap length ended ∙ finished.ends_count;
          ends = λ n i end mine at.
              let here : slice_get ends n ≡ Some end = subst (λ (l : List EndOf). slice_get l n ≡ Some end) ended at in
              let is : IsEndOf p i h (end_of n) = whole_run.ends_are n i mine in
              subst (λ (l : List Entry). IsEndOf p i l end) same (subst (IsEndOf p i h) (get_or_from_slice_get ends n end no_end here) is);
        };
      }

  pub core_is : (l : List Entry) → l ≡ merged (entries_of_logs logs) → IsCoreRun p l
  core_is l is = subst (IsCoreRun p) (sym (is ∙ merged_all)) core

  pub numbered : IsNumbered (merged (entries_of_logs logs))
  numbered = subst IsNumbered (sym merged_all) have_left.numbered

  pub counted : (n : ℕ) → n ≡ length all → n ≡ length (merged (entries_of_logs logs))
  counted n is = is ∙ (sym (length-map all (entry_read p.platform)) ∙ ap length (sym (merged_all ∙ as_read p.platform all)))

  pub read_all : (l : List Entry) → l ≡ merged (entries_of_logs logs) → entries_read p.platform all ≡ l
  read_all l is = sym (is ∙ (merged_all ∙ as_read p.platform all))
