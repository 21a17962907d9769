-- `clap` reads the words of a run as their parts.
use Rattle.std.proofs.Common.{◌≡◌, ℕ, true, false, List, [], ◌∷◌, ◌++◌, Option, Some, None, codes}
use Rattle.std.proofs.Common.{refl, sym, ◌∙◌, ap}
use Rattle.std.specs.List.{filter_map}
use Rattle.clap.specs.Words.{Row, Text}
use Rattle.clap.specs.Walk.{Walk, has_row, settled_rows, walked}
use Rattle.clap.specs.Takes.{turn_passes}
use Rattle.command_words.specs.Words.{Part, file, workers, trace, file_in}
use Rattle.command_words.proofs.WalkSteps.{rules, run_shape, part_rows, part_rows-append, put, put_new, no_row, between, waits_for, Pending, passes_settling}
use Rattle.command_words.proofs.WalkSteps.{IsPlainWord, IsOption, file_are, at_file, at_file_passes, file_settles, file_settles_passes}

-- ---- a walk that has read some parts

pub record Stands (seen : List Part) (w : Walk) : Type 0 where
  pub rows : List Row
  pub pending : Pending
  pub position : ℕ
  pub is : w ≡ between rows pending position
  pub settled : settled_rows rules pending rows ≡ part_rows seen
  pub first : filter_map file_in seen ≡ [] → position ≡ 1
  pub passes : passes_settling rows pending position

front_nil : {X Y : Type 0} (has : X → Option Y) (xs ys : List X) → filter_map has (xs ++ ys) ≡ [] → filter_map has xs ≡ []
front_nil has [] ys e = refl
front_nil has (x ∷ xs) ys e = go (has x) refl (front_nil has xs ys)
  where
    go : (h : Option _) → has x ≡ h → (filter_map has (xs ++ ys) ≡ [] → filter_map has xs ≡ []) → filter_map has (x ∷ xs) ≡ []
    go None f rest = rw f (rest (rw f at e))
    go (Some y) f rest = let no : y ∷ filter_map has (xs ++ ys) ≡ [] = rw f at e in absurd (cc)

put_next : (id : Text) (has : Part → Option Text) (make : Text → Part) (alone prefix : Text) → IsOption id has make alone prefix
    → (value : Text) (seen : List Part) (before : List Row) → before ≡ part_rows seen → filter_map has seen ≡ []
    → put id value before ≡ part_rows (seen ++ make value ∷ [])
put_next id has make alone prefix o value seen before e new =
    ap (put id value) e ∙ put_new id has o.are value seen new ∙ ap (λ (r : Row). part_rows seen ++ r ∷ []) (sym (o.row_is value))
    ∙ sym (part_rows-append seen (make value))

-- a part that was read by one word or by two
pub record Reads (seen : List Part) (w : Walk) (part : Part) (word : Text) : Type 0 where
  pub stands : Stands (seen ++ part ∷ []) (walked rules [] w word)
  pub passes : turn_passes run_shape [] w word ≡ true

pub reads_attached : (id : Text) (has : Part → Option Text) (make : Text → Part) (alone prefix : Text) → IsOption id has make alone prefix
    → (seen : List Part) (w : Walk) (value : Text) → Stands seen w → filter_map has seen ≡ [] → Reads seen w (make value) (prefix ++ value)
reads_attached id has make alone prefix o seen w value s new =
    let none : has_row id (settled_rows rules s.pending s.rows) ≡ false = rw s.settled (no_row id has o.are seen new) in
    record {
      stands = record {
        rows = put id value (settled_rows rules s.pending s.rows);
        pending = None;
        position = s.position;
        is = ap (λ (v : Walk). walked rules [] v (prefix ++ value)) s.is ∙ o.attached s.rows s.pending s.position value;
        settled = put_next id has make alone prefix o value seen _ s.settled new;
        first = λ e. s.first (front_nil file_in seen _ e);
        passes = refl;
      };
      passes = rw s.is (o.attached_passes s.rows s.pending s.position value s.passes none);
    }

pub record ReadsTwo (seen : List Part) (w : Walk) (part : Part) (word value : Text) : Type 0 where
  pub stands : Stands (seen ++ part ∷ []) (walked rules [] (walked rules [] w word) value)
  pub passes : turn_passes run_shape [] w word ≡ true
  pub then_passes : turn_passes run_shape [] (walked rules [] w word) value ≡ true

pub reads_two : (id : Text) (has : Part → Option Text) (make : Text → Part) (alone prefix : Text) → IsOption id has make alone prefix
    → (seen : List Part) (w : Walk) (value : Text) → IsPlainWord value → Stands seen w → filter_map has seen ≡ []
    → ReadsTwo seen w (make value) alone value
reads_two id has make alone prefix o seen w value is_plain s new =
    let before = settled_rows rules s.pending s.rows in
    let none : has_row id before ≡ false = rw s.settled (no_row id has o.are seen new) in
    let begun : walked rules [] w alone ≡ waits_for before id s.position =
    ap (λ (v : Walk). walked rules [] v alone) s.is ∙ o.begins s.rows s.pending s.position in
    record {
      stands = record {
        rows = before;
        pending = Some (id, value ∷ []);
        position = s.position;
        is = ap (λ (v : Walk). walked rules [] v value) begun ∙ o.takes_value before s.position value is_plain;
        settled = o.settles before value ∙ put_next id has make alone prefix o value seen _ s.settled new;
        first = λ e. s.first (front_nil file_in seen _ e);
        passes = o.settles_passes before s.position value none;
      };
      passes = rw s.is (o.begins_passes s.rows s.pending s.position s.passes);
      then_passes = rw begun (o.takes_passes before s.position value is_plain);
    }

file_at_end : (seen : List Part) (name : Text) → filter_map file_in (seen ++ file name ∷ []) ≡ [] → ⊥
file_at_end [] name e = cc
file_at_end (file other ∷ ps) name e = cc
file_at_end (workers value ∷ ps) name e = file_at_end ps name e
file_at_end (trace value ∷ ps) name e = file_at_end ps name e

pub reads_file : (seen : List Part) (w : Walk) (name : Text) → IsPlainWord name → Stands seen w → filter_map file_in seen ≡ []
    → Reads seen w (file name) name
reads_file seen w name is_plain s new =
    let before = settled_rows rules s.pending s.rows in
    let none : has_row (codes "file") before ≡ false = rw s.settled (no_row (codes "file") file_in file_are seen new) in
    let one : s.position ≡ 1 = s.first new in
    let here : w ≡ between s.rows s.pending 1 = s.is ∙ ap (between s.rows s.pending) one in
    let settling : passes_settling s.rows s.pending 1 = s.passes in
    record {
      stands = record {
        rows = before;
        pending = Some (codes "file", name ∷ []);
        position = 2;
        is = ap (λ (v : Walk). walked rules [] v name) here ∙ at_file s.rows s.pending name is_plain;
        settled = file_settles before name ∙ ap (put (codes "file") name) s.settled ∙ put_new (codes "file") file_in file_are name seen new
            ∙ sym (part_rows-append seen (file name));
        first = λ e. absurd (file_at_end seen name e);
        passes = file_settles_passes before 2 name none;
      };
      passes = rw here (at_file_passes s.rows s.pending name is_plain settling);
    }
