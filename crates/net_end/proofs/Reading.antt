-- The events of one object, as its seat has them.
use Rattle.std.proofs.Common.{◌≡◌, ℕ, zero, suc, ◌+◌, ◌<◌, ◌≤◌, ◌==◌, cond, Bool, true, false, List, [], ◌∷◌, length, get_or, map, Some, refl, ap, sym, ◌∙◌, arith, ⊎_elim}
use Rattle.std.specs.Prelude.{All, slice_get, slice_index_or}
use Rattle.std.proofs.lemmas.Bool.{cases_lt, eq-eqb, eqb-true}
use Rattle.std.proofs.lemmas.List.Elements.{All-head, All-tail}
use Rattle.one_history.specs.declared.entry.Entry.{Entry as HistoryEntry}
use Rattle.one_history.specs.declared.view.Frame.{Frame}
use Rattle.one_history.specs.Closing.{ArePlanned}
use Rattle.one_history.specs.Lists.{entries_at as history_at, object_of}
use Rattle.view_lists.specs.Lists.{Has}
use Rattle.view_lists.proofs.Keys.{of_key-has}
use Rattle.view_lists.proofs.Members.{has_none}
use Rattle.tlm_types.specs.declared.entry.Content.{Content}
use Rattle.tlm_types.specs.declared.entry.Entry.{Entry}
use Rattle.tlm_types.specs.declared.words.ObjectNo.{ObjectNo}
use Rattle.tlm_types.specs.declared.words.ObjectNo.TheVariants.{Memory, Hop}
use Rattle.tlm_model.specs.declared.platform.Platform.{Platform}
use Rattle.tlm_model.specs.History.{entries_at, is_object}
use Rattle.tlm_model.specs.Plan.{Plan}
use Rattle.shared_object.specs.Written.{placed}
use Rattle.region_object.specs.Written.{written_from}
use Rattle.numbered_log.specs.Logged.{written_by}
use Rattle.flow_model.specs.Events.{Event, at, entries}
use Rattle.cargo_model.specs.Known.{event_of, objects_of}
use Rattle.cargo_model.proofs.Origins.{is_self, is_that}
use Rattle.cargo_net.proofs.Lists.{read_there}
use Rattle.cargo_net.proofs.ObjectsOnce.{stands_once}
use Rattle.net_end.specs.Closed.{IsPlanned, events_in}

past_end : (l : List ℕ) (k : ℕ) → length l ≤ k → slice_index_or l k 0 ≡ 0
past_end [] k past = refl
past_end (x ∷ l) zero past = absurd (omega arith)
past_end (x ∷ l) (suc k) past = past_end l k (omega arith)

no_length : {A : Type 0} (l : List A) (x : A) → Has l x → length l ≤ 0 → ⊥
no_length [] x has few = has_none x has
no_length (y ∷ l) x has few = omega arith

-- what is there at a place below the length
pub there : (os : List ObjectNo) (k : ℕ) → k < length os → (o : ObjectNo) × (slice_get os k ≡ Some o)
there [] k below = absurd (omega arith)
there (o ∷ os) zero below = (o, refl)
there (o ∷ os) (suc k) below = there os k (omega arith)

-- each entry stands at an object that is there
pub is_there : (frame : Frame Plan) (all : List (HistoryEntry Content)) → IsPlanned frame → ArePlanned frame all → (e : HistoryEntry Content) → Has all e → e.object < length (objects_of frame.world.platform)
is_there frame all is planned e has = ⊎_elim
    (λ (below : e.object < length (objects_of frame.world.platform)). below)
    (λ (past : length (objects_of frame.world.platform) ≤ e.object).
    let few = planned e.object in
    let count = is.count in
    let none = past_end frame.planned e.object (omega arith) in
    absurd (no_length (history_at e.object all) e (of_key-has object_of all e has) (omega arith)))
    (cases_lt e.object (length (objects_of frame.world.platform)))

module _ (p : Platform) where
  -- the object that an entry is read at
  abbrev read_at : HistoryEntry Content → ObjectNo
  read_at e = get_or (objects_of p) e.object (Hop 0)

  -- an entry is read at an object exactly where it has the object's number
  same_test : (n : ℕ) (o : ObjectNo) → slice_get (objects_of p) n ≡ Some o → (e : HistoryEntry Content) → e.object < length (objects_of p) → is_object o (read_at e) ≡ (e.object == n)
  same_test n o at e below = by (e.object == n) refl
    where
      found : (x : ObjectNo) × (slice_get (objects_of p) e.object ≡ Some x)
      found = there (objects_of p) e.object below

      reads : read_at e ≡ found.0
      reads = read_there (objects_of p) e.object found.0 (Hop 0) found.1

      some_same : (x y : ObjectNo) → Some x ≡ Some y → x ≡ y
      some_same x y q = cc

      by : (b : Bool) → (e.object == n) ≡ b → is_object o (read_at e) ≡ b
      by true q =
          let here : e.object ≡ n = eqb-true e.object n q in
          let same : found.0 ≡ o = some_same _ _ (sym found.1 ∙ (ap (slice_get (objects_of p)) here ∙ at)) in
          ap (is_object o) (reads ∙ same) ∙ is_self o
      by false q = not_at (is_object o (read_at e)) refl
        where
          differ : false ≡ true → ⊥
          differ r = cc

          not_at : (b : Bool) → is_object o (read_at e) ≡ b → is_object o (read_at e) ≡ false
          not_at false r = r
          not_at true r =
              let same : found.0 ≡ o = sym reads ∙ is_that o (read_at e) r in
              let one : e.object ≡ n = stands_once p e.object o (found.1 ∙ ap (λ (x : ObjectNo). Some x) same) ∙ sym (stands_once p n o at) in
              let wrong : (e.object == n) ≡ true = eq-eqb e.object n one in
              absurd (differ (sym q ∙ wrong))

  abbrev AreThere : List (HistoryEntry Content) → Type 0
  AreThere all = (e : HistoryEntry Content) → Has all e → e.object < length (objects_of p)

  later : (x : HistoryEntry Content) (all : List (HistoryEntry Content)) → AreThere (x ∷ all) → AreThere all
  later x all each e has = each e (suc has.0, has.1)

  -- the events of an object are those with its number
  pub at_number : (n : ℕ) (o : ObjectNo) → slice_get (objects_of p) n ≡ Some o → (all : List (HistoryEntry Content)) → AreThere all → at o (events_in p all) ≡ map (event_of p) (history_at n all)
  at_number n o is [] each = refl
  at_number n o is (e ∷ all) each =
      ap (λ (b : Bool). cond b (event_of p e ∷ at o (events_in p all)) (at o (events_in p all))) (same_test n o is e (each e (0, refl))) ∙ by (e.object == n) (at_number n o is all (later e all each))
    where
      by : (b : Bool) → at o (events_in p all) ≡ map (event_of p) (history_at n all)
          → cond b (event_of p e ∷ at o (events_in p all)) (at o (events_in p all)) ≡ map (event_of p) (cond b (e ∷ history_at n all) (history_at n all))
      by true rest = ap (λ (l : List Event). event_of p e ∷ l) rest
      by false rest = rest

  -- an object that isn't there has none
  pub at_none : (o : ObjectNo) → ((k : ℕ) → slice_get (objects_of p) k ≡ Some o → ⊥) → (all : List (HistoryEntry Content)) → AreThere all → at o (events_in p all) ≡ []
  at_none o none [] each = refl
  at_none o none (e ∷ all) each = by (is_object o (read_at e)) refl (at_none o none all (later e all each))
    where
      found : (x : ObjectNo) × (slice_get (objects_of p) e.object ≡ Some x)
      found = there (objects_of p) e.object (each e (0, refl))

      by : (b : Bool) → is_object o (read_at e) ≡ b → at o (events_in p all) ≡ [] → cond (is_object o (read_at e)) (event_of p e ∷ at o (events_in p all)) (at o (events_in p all)) ≡ []
      by false q rest = ap (λ (b : Bool). cond b (event_of p e ∷ at o (events_in p all)) (at o (events_in p all))) q ∙ rest
      by true q rest =
          let same : found.0 ≡ o = sym (read_there (objects_of p) e.object found.0 (Hop 0) found.1) ∙ is_that o (read_at e) q in
          absurd (none e.object (found.1 ∙ ap (λ (x : ObjectNo). Some x) same))

  -- what an object has written, as the history has it, reads as its log
  pub log_read : (n : ℕ) (o : ObjectNo) → slice_get (objects_of p) n ≡ Some o → (log : List Event) → All (λ (e : Event). e.object ≡ o) log → map (event_of p) (map (placed n) (map written_by log)) ≡ log
  log_read n o is [] own = refl
  log_read n o is (e ∷ log) own =
      let here : get_or (objects_of p) n (Hop 0) ≡ e.object = read_there (objects_of p) n o (Hop 0) is ∙ sym (All-head (λ (x : Event). x.object ≡ o) e log own) in
      ap (λ (x : Event). x ∷ map (event_of p) (map (placed n) (map written_by log))) (ap (λ (b : ObjectNo). record { entry = record { position = e.position; object = b; txn = e.txn; time = e.time; what = e.what }; number = e.number }) here)
      ∙ ap (λ (l : List Event). e ∷ l) (log_read n o is log (All-tail (λ (x : Event). x.object ≡ o) e log own))

  -- so does the log of a memory, without the numbers
  pub memory_read : (n m : ℕ) → slice_get (objects_of p) n ≡ Some (Memory m) → (k : ℕ) (log : List Entry) → All (λ (e : Entry). e.object ≡ Memory m) log → entries (map (event_of p) (map (placed n) (written_from k log))) ≡ log
  memory_read n m is k [] own = refl
  memory_read n m is k (e ∷ log) own =
      let here : get_or (objects_of p) n (Hop 0) ≡ e.object = read_there (objects_of p) n (Memory m) (Hop 0) is ∙ sym (All-head (λ (x : Entry). x.object ≡ Memory m) e log own) in
      ap (λ (x : Entry). x ∷ entries (map (event_of p) (map (placed n) (written_from (k + 1) log)))) (ap (λ (b : ObjectNo). record { position = e.position; object = b; txn = e.txn; time = e.time; what = e.what }) here)
      ∙ ap (λ (l : List Entry). e ∷ l) (memory_read n m is (k + 1) log (All-tail (λ (x : Entry). x.object ≡ Memory m) e log own))

-- the entries of an object are those of its events
pub entries_read : (o : ObjectNo) (h : List Event) → entries_at o (entries h) ≡ entries (at o h)
entries_read o [] = refl
entries_read o (e ∷ h) = by (is_object o e.object) (entries_read o h)
  where
    by : (b : Bool) → entries_at o (entries h) ≡ entries (at o h) → cond b (e.entry ∷ entries_at o (entries h)) (entries_at o (entries h)) ≡ entries (cond b (e ∷ at o h) (at o h))
    by true rest = ap (λ (l : List Entry). e.entry ∷ l) rest
    by false rest = rest
