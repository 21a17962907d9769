-- The places of a history's entries in its logs.
use Rattle.std.proofs.Common.{◌≡◌, ◌≢◌, ℕ, zero, suc, ◌+◌, ◌<◌, ◌≤◌, List, [], ◌∷◌, ◌++◌, length, get_or, Option, Some, None, Bool, true, false, ◌&&◌, nat_eq, refl, ap, sym, subst, ◌∙◌, arith}
use Rattle.std.specs.List.{AllByRecursion}
use Rattle.std.specs.Option.{option_and_then, option_map}
use Rattle.std.proofs.lemmas.List.{length-map}
use Rattle.std.proofs.lemmas.Option.{slice_get_read}
use Rattle.std.specs.Prelude.{slice_get}
use Rattle.std.proofs.lemmas.Bool.Decides.{nat_tests}
use Rattle.tlm_types.specs.declared.entry.Entry.{Entry}
use Rattle.tlm_types.specs.declared.entry.Head.{Head}
use Rattle.tlm_types.specs.Entries.{head_of}
use Rattle.entry_log.specs.Log.{LogView}
use Rattle.tlm_model.specs.History.{IsNumbered, IsNumberedFrom}
use Rattle.tlm_model.proofs.HistoryLemmas.{AllByRecursion-weaker}
use Rattle.run_outcome.specs.declared.merge.window.Place.{Place}
use Rattle.run_outcome.specs.Merge.{entries_in, merged}
use Rattle.run_outcome.specs.Places.{HasAt, HasNoneBefore, HaveNoneBefore, StandsAt, are_whole, entries_of_logs, entry_at}
use Rattle.run_outcome.proofs.ListLemmas.{at_map, has_element, within}
use Rattle.run_outcome.proofs.MergeLemmas.{by_position-all, by_position-of}

-- an entry stands in a list
record IsIn (xs : List Entry) (e : Entry) : Type 0 where
  pub place : ℕ
  pub at : slice_get xs place ≡ Some e

in_more : (x : Entry) (xs : List Entry) (e : Entry) → IsIn xs e → IsIn (x ∷ xs) e
in_more x xs e is = record { place = suc is.place; at = is.at }

all_in : (xs : List Entry) → AllByRecursion (IsIn xs) xs
all_in [] = tt
all_in (x ∷ xs) = (record { place = zero; at = refl }, AllByRecursion-weaker (IsIn xs) (IsIn (x ∷ xs)) xs (λ e is. in_more x xs e is) (all_in xs))

all_at : (P : Entry → Type 0) (xs : List Entry) (q : ℕ) (e : Entry) → AllByRecursion P xs → slice_get xs q ≡ Some e → P e
all_at P [] q e all is = cc
all_at P (x ∷ xs) zero e all is = let same : x ≡ e = cc in subst P same all.0
all_at P (x ∷ xs) (suc q) e all is = all_at P xs q e all.1 is

all_both : (P : Entry → Type 0) (a b : List Entry) → AllByRecursion P a → AllByRecursion P b → AllByRecursion P (a ++ b)
all_both P [] b x y = y
all_both P (e ∷ a) b x y = (x.0, all_both P a b x.1 y)

numbered_at : (n : ℕ) (h : List Entry) (q : ℕ) (e : Entry) → IsNumberedFrom n h → slice_get h q ≡ Some e → e.position ≡ n + q
numbered_at n [] q e numbered is = cc
numbered_at n (x ∷ h) zero e numbered is = let same : x ≡ e = cc in omega (arith, numbered.0, ap (λ (y : Entry). y.position) same)
numbered_at n (x ∷ h) (suc q) e numbered is = omega (arith, numbered_at (n + 1) h q e numbered.1 is)

front_in : (a b : List Entry) (q : ℕ) (e : Entry) → slice_get a q ≡ Some e → IsIn (a ++ b) e
front_in [] b q e is = cc
front_in (x ∷ a) b zero e is = record { place = zero; at = is }
front_in (x ∷ a) b (suc q) e is = in_more x (a ++ b) e (front_in a b q e is)

back_in : (a b : List Entry) (e : Entry) → IsIn b e → IsIn (a ++ b) e
back_in [] b e is = is
back_in (x ∷ a) b e is = in_more x (a ++ b) e (back_in a b e is)

-- what stands at a place is one of all entries
place_in : (logs : List (List Entry)) (l i : ℕ) (e : Entry) → entry_at logs (record { log = l; index = i }) ≡ Some e → IsIn (entries_in logs) e
place_in [] l i e is = cc
place_in (log ∷ logs) zero i e is = front_in log (entries_in logs) i e is
place_in (log ∷ logs) (suc l) i e is = back_in log (entries_in logs) e (place_in logs l i e is)

-- what stands at a place stands at its position in the history
pub merged_at : (logs : List (List Entry)) (place : Place) (e : Entry) → IsNumbered (merged logs) → entry_at logs place ≡ Some e → slice_get (merged logs) e.position ≡ Some e
merged_at logs place e numbered is =
    let among = place_in logs place.log place.index e is in
    let found = all_at (IsIn (merged logs)) (entries_in logs) among.place e (by_position-of (IsIn (merged logs)) (entries_in logs) (all_in (merged logs))) among.at in
    let position : e.position ≡ found.place = omega (arith, numbered_at 0 (merged logs) found.place e numbered found.at) in
    ap (slice_get (merged logs)) position ∙ found.at

-- an entry has a place
record HasPlace (logs : List (List Entry)) (e : Entry) : Type 0 where
  pub place : Place
  pub at : entry_at logs place ≡ Some e

first_places : (log : List Entry) (logs : List (List Entry)) → AllByRecursion (HasPlace (log ∷ logs)) log
first_places log logs = AllByRecursion-weaker (IsIn log) (HasPlace (log ∷ logs)) log (λ e is. record { place = record { log = 0; index = is.place }; at = is.at }) (all_in log)

all_places : (logs : List (List Entry)) → AllByRecursion (HasPlace logs) (entries_in logs)
all_places [] = tt
all_places (log ∷ logs) =
    all_both (HasPlace (log ∷ logs)) log (entries_in logs) (first_places log logs)
    (AllByRecursion-weaker (HasPlace logs) (HasPlace (log ∷ logs)) (entries_in logs) (λ e is. record { place = record { log = suc is.place.log; index = is.place.index }; at = is.at }) (all_places logs))

place_of : (logs : List (List Entry)) (q : ℕ) (e : Entry) → slice_get (merged logs) q ≡ Some e → HasPlace logs e
place_of logs q e is = all_at (HasPlace logs) (merged logs) q e (by_position-all (HasPlace logs) (entries_in logs) (all_places logs)) is

entry_log_within : (logs : List (List Entry)) (place : Place) (e : Entry) → entry_at logs place ≡ Some e → place.log < length logs
entry_log_within logs place e is = by_log (slice_get logs place.log) refl is
  where
    by_log : (o : Option (List Entry)) → slice_get logs place.log ≡ o → option_and_then (λ (l : List Entry). slice_get l place.index) o ≡ Some e → place.log < length logs
    by_log None same is = cc
    by_log (Some l) same is = within logs place.log l same

-- a log, by its index
pub log_at : (logs : List LogView) (number : ℕ) (log : LogView) → number < length logs → log ≡ get_or logs number log → slice_get (entries_of_logs logs) number ≡ Some log.entries
log_at logs number log below is = at_map (λ (x : LogView). x.entries) logs number log (slice_get_read logs (length logs) number log refl below is)

pub has_head : (entries : List Entry) (index : ℕ) (head : Head) → option_map head_of (slice_get entries index) ≡ Some head → HasAt entries head.position index
has_head entries index head is = by_entry (slice_get entries index) refl is
  where
    by_entry : (o : Option Entry) → slice_get entries index ≡ o → option_map head_of o ≡ Some head → HasAt entries head.position index
    by_entry None same is = cc
    by_entry (Some e) same is = record { entry = e; at = same; is = position is }
      where
        position : Some (head_of e) ≡ Some head → e.position ≡ head.position
        position q = let one : head_of e ≡ head = cc in ap (λ (h : Head). h.position) one

at_place : (logs : List (List Entry)) (number index : ℕ) (log : List Entry) (e : Entry) → slice_get logs number ≡ Some log → slice_get log index ≡ Some e → entry_at logs (record { log = number; index = index }) ≡ Some e
at_place logs number index log e here at = ap (option_and_then (λ (l : List Entry). slice_get l index)) here ∙ at

-- an entry of this position stands at its place
pub placed_at : (logs : List (List Entry)) (position : ℕ) (place : Place) (log : List Entry) → IsNumbered (merged logs) → slice_get logs place.log ≡ Some log → HasAt log position place.index → StandsAt logs position place
placed_at logs position place log numbered here has =
    let there = at_place logs place.log place.index log has.entry here has.at in
    record { entry = has.entry; at = ap (slice_get (merged logs)) (sym has.is) ∙ merged_at logs place has.entry numbered there; there = there }

-- an entry whose head has this position stands at its place
pub placed_by_head : (logs : List LogView) (position : ℕ) (place : Place) (log : LogView) (head : Head) → IsNumbered (merged (entries_of_logs logs)) → place.log < length logs → log ≡ get_or logs place.log log → option_map head_of (slice_get log.entries place.index) ≡ Some head → head.position ≡ position → StandsAt (entries_of_logs logs) position place
placed_by_head logs position place log head numbered below here is same =
    let has = has_head log.entries place.index head is in
    placed_at (entries_of_logs logs) position place log.entries numbered (log_at logs place.log log below here) (record { entry = has.entry; at = has.at; is = has.is ∙ same })

-- no entry up to this one has this position
pub none_more : (entries : List Entry) (position index : ℕ) (head : Head) → HasNoneBefore entries position index → option_map head_of (slice_get entries index) ≡ Some head → head.position ≢ position → HasNoneBefore entries position (index + 1)
none_more entries position index head none is other i e before at =
    by_index (nat_eq i index) refl
  where
    same_entry : (a b : Entry) → Some a ≡ Some b → a ≡ b
    same_entry a b q = cc

    here : (a b : ℕ) → nat_eq a b ≡ true → a ≡ b
    here a b same = grind (arith, nat_tests)

    below : (a b : ℕ) → nat_eq a b ≡ false → a < b + 1 → a < b
    below a b apart less = grind (arith, nat_tests)

    by_index : (b : Bool) → nat_eq i index ≡ b → e.position ≢ position
    by_index true same =
        let found = has_head entries index head is in
        let one : Some e ≡ Some found.entry = sym at ∙ (ap (slice_get entries) (here i index same) ∙ found.at) in
        λ q. other (sym found.is ∙ (ap (λ (x : Entry). x.position) (sym (same_entry e found.entry one)) ∙ q))
    by_index false apart = none i e (below i index apart before) at

-- no entry of the logs up to this one has this position
pub none_in_more : (logs : List (List Entry)) (position number : ℕ) (log : List Entry) → HaveNoneBefore logs position number → slice_get logs number ≡ Some log → HasNoneBefore log position (length log) → HaveNoneBefore logs position (number + 1)
none_in_more logs position number log none here all place e before at =
    by_log (nat_eq place.log number) refl
  where
    equal : (a b : ℕ) → nat_eq a b ≡ true → a ≡ b
    equal a b same = grind (arith, nat_tests)

    below : (a b : ℕ) → nat_eq a b ≡ false → a < b + 1 → a < b
    below a b apart less = grind (arith, nat_tests)

    by_log : (b : Bool) → nat_eq place.log number ≡ b → e.position ≢ position
    by_log true same =
        let there : slice_get log place.index ≡ Some e = sym (ap (option_and_then (λ (l : List Entry). slice_get l place.index)) (ap (slice_get logs) (equal place.log number same) ∙ here)) ∙ at in
        all place.index e (within log place.index e there) there
    by_log false apart = none place e (below place.log number apart before) at

-- some log has the entry of each position
pub some_has : (logs : List (List Entry)) (position number : ℕ) → IsNumbered (merged logs) → position < length (merged logs) → length logs ≤ number → HaveNoneBefore logs position number → ⊥
some_has logs position number numbered below all none =
    let found = has_element (merged logs) position below in
    let has = place_of logs position found.element found.at in
    none has.place found.element (omega (arith, entry_log_within logs has.place found.element has.at)) has.at (omega (arith, numbered_at 0 (merged logs) position found.element numbered found.at))

-- a log, where an entry of the history stands
module _ (logs : List LogView) (position : ℕ) (place : Place) (log : LogView) (stands : StandsAt (entries_of_logs logs) position place) (is : log ≡ get_or logs place.log log) where
  below : place.log < length logs
  below = omega (arith, entry_log_within (entries_of_logs logs) place stands.entry stands.there, length-map logs (λ (x : LogView). x.entries))

  pub stands_same : slice_get log.entries place.index ≡ slice_get (merged (entries_of_logs logs)) position
  stands_same = sym (ap (option_and_then (λ (l : List Entry). slice_get l place.index)) (log_at logs place.log log below is)) ∙ stands.there ∙ sym stands.at

  pub stands_whole : are_whole logs ≡ true → log.whole ≡ true
  stands_whole whole = whole_at logs place.log log whole (slice_get_read logs (length logs) place.log log refl below is)
    where
      first : (a b : Bool) → (a && b) ≡ true → a ≡ true
      first true b both = refl
      first false b both = both

      second : (a b : Bool) → (a && b) ≡ true → b ≡ true
      second true b both = both
      second false b both = cc

      whole_at : (all : List LogView) (k : ℕ) (x : LogView) → are_whole all ≡ true → slice_get all k ≡ Some x → x.whole ≡ true
      whole_at [] k x one at = cc
      whole_at (y ∷ all) zero x one at = let same : y ≡ x = cc in ap (λ (v : LogView). v.whole) (sym same) ∙ first y.whole (are_whole all) one
      whole_at (y ∷ all) (suc k) x one at = whole_at all k x (second y.whole (are_whole all) one) at
