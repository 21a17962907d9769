-- What `clap`'s walk over the words after `run` does at each part of them.
use Rattle.std.proofs.Common.{◌≡◌, ℕ, ◌==◌, ◌&&◌, Bool, true, false, List, [], ◌∷◌, ◌++◌, Option, Some, None, map, codes}
use Rattle.std.proofs.Common.{refl, ◌∙◌, ap}
use Rattle.std.specs.List.{filter_map}
use Rattle.std.specs.Str.{bytes_eq}
use Rattle.clap.specs.Lexer.{long_of, short_of, strip_byte}
use Rattle.clap.specs.Words.{Row, Rule, Shape, Text, built, new_rule}
use Rattle.clap.specs.Walk.{Walk, at_row, has_row, idle, more_values, option, reading_by, settled_rows, walked, with_values, without}
use Rattle.clap.specs.Takes.{settle_passes, turn_passes}
use Rattle.clap.specs.declared.parser.matches.ValueSource.TheVariants.{CommandLine}
use Rattle.command_words.specs.Words.{Part, file, workers, trace, file_in, workers_in, trace_in}
use Rattle.command_words.specs.Parser.{run_app}

-- ---- the command as it is built

abbrev pub run_shape : Shape
run_shape = (built run_app).top

abbrev pub rules : List Rule
rules = run_shape.rules

abbrev pub rule_or : List Rule → Rule
rule_or [] = new_rule []
rule_or (r ∷ rs) = r

abbrev pub after_one : List Rule → List Rule
after_one [] = []
after_one (r ∷ rs) = rs

abbrev pub workers_built : Rule
workers_built = rule_or rules

abbrev pub trace_built : Rule
trace_built = rule_or (after_one rules)

abbrev pub file_built : Rule
file_built = rule_or (after_one (after_one rules))

-- ---- the rows of parts

abbrev pub row : Text → Text → Row
row id value = record {
  id = id;
  values = value ∷ [];
  count = None;
  source = Some CommandLine;
  reading = reading_by workers_built;
}

abbrev pub row_of_part : Part → Row
row_of_part (file name) = row (codes "file") name
row_of_part (workers value) = row (codes "workers") value
row_of_part (trace value) = row (codes "trace") value

abbrev pub part_rows : List Part → List Row
part_rows parts = map row_of_part parts

-- the parts that `has` tells have the only rows of this id
pub record AreOf (id : Text) (has : Part → Option Text) : Type 0 where
  pub others : (p : Part) → has p ≡ None → bytes_eq (row_of_part p).id id ≡ false

some_is_not_none : {X : Type 0} {x : X} → Some x ≡ None → ⊥
some_is_not_none e = cc

-- a row of an id that no part has is added at the end
pub at_new_row : (id : Text) (has : Part → Option Text) → AreOf id has → (change : Row → List Row) (missing : List Row) (parts : List Part)
    → filter_map has parts ≡ [] → at_row id change missing (part_rows parts) ≡ part_rows parts ++ missing
at_new_row id has are change missing [] e = refl
at_new_row id has are change missing (p ∷ ps) e = go (has p) refl (at_new_row id has are change missing ps)
  where
    go : (h : Option Text) → has p ≡ h → (filter_map has ps ≡ [] → at_row id change missing (part_rows ps) ≡ part_rows ps ++ missing)
        → at_row id change missing (part_rows (p ∷ ps)) ≡ part_rows (p ∷ ps) ++ missing
    go None f rest = rw (are.others p f) (ap (λ (rs : List Row). row_of_part p ∷ rs) (rest (rw f at e)))
    go (Some x) f rest = let no : x ∷ filter_map has ps ≡ [] = rw f at e in absurd (cc)

-- such an id has no row
pub no_row : (id : Text) (has : Part → Option Text) → AreOf id has → (parts : List Part) → filter_map has parts ≡ []
    → has_row id (part_rows parts) ≡ false
no_row id has are [] e = refl
no_row id has are (p ∷ ps) e = go (has p) refl (no_row id has are ps)
  where
    go : (h : Option Text) → has p ≡ h → (filter_map has ps ≡ [] → has_row id (part_rows ps) ≡ false) → has_row id (part_rows (p ∷ ps)) ≡ false
    go None f rest = rw (are.others p f) (rest (rw f at e))
    go (Some x) f rest = let no : x ∷ filter_map has ps ≡ [] = rw f at e in absurd (cc)

-- the rows with one more value of this id
abbrev pub put : Text → Text → List Row → List Row
put id value rows = with_values id (reading_by workers_built) CommandLine (value ∷ []) (without id rows)

rows_nil : (rows : List Row) → rows ++ [] ≡ rows
rows_nil [] = refl
rows_nil (r ∷ rs) = ap (λ (xs : List Row). r ∷ xs) (rows_nil rs)

pub put_new : (id : Text) (has : Part → Option Text) → AreOf id has → (value : Text) (parts : List Part) → filter_map has parts ≡ []
    → put id value (part_rows parts) ≡ part_rows parts ++ row id value ∷ []
put_new id has are value parts e =
    ap (λ (rows : List Row). with_values id (reading_by workers_built) CommandLine (value ∷ []) rows)
    (at_new_row id has are (λ _. []) [] parts e ∙ rows_nil (part_rows parts))
    ∙ at_new_row id has are (more_values CommandLine (value ∷ [])) (row id value ∷ []) parts e

pub part_rows-append : (parts : List Part) (p : Part) → part_rows (parts ++ p ∷ []) ≡ part_rows parts ++ row_of_part p ∷ []
part_rows-append [] p = refl
part_rows-append (q ∷ ps) p = ap (λ (rows : List Row). row_of_part q ∷ rows) (part_rows-append ps p)

-- ---- the walk between two parts

abbrev pub Pending : Type 0
Pending = Option (Text × List Text)

-- between two parts: the rows so far, the part that still waits to be used, and the position of the
-- next file
abbrev pub between : List Row → Pending → ℕ → Walk
between rows pending position = record {
  held = record { rows = rows; pending = pending; skip = 0 };
  waiting = idle;
  position = position;
  is_trailing = false;
  stopped = None;
}

-- after an option that stands alone
abbrev pub waits_for : List Row → Text → ℕ → Walk
waits_for rows id position = record {
  held = record { rows = rows; pending = Some (id, []); skip = 0 };
  waiting = option id;
  position = position;
  is_trailing = false;
  stopped = None;
}

-- the word is a value or a file's name for `clap`
pub record IsPlainWord (word : Text) : Type 0 where
  pub dashes : bytes_eq word (45 ∷ 45 ∷ []) ≡ false
  pub long : long_of word ≡ None
  pub short : short_of word ≡ None

pub plain_word : (word : Text) → strip_byte 45 word ≡ None → IsPlainWord word
plain_word [] e = record { dashes = refl; long = refl; short = refl }
plain_word (x ∷ xs) e = go (x == 45) refl
  where
    go : (b : Bool) → (x == 45) ≡ b → IsPlainWord (x ∷ xs)
    go true f = let no : Some xs ≡ None = rw f at e in absurd (cc)
    go false f = record { dashes = rw f refl; long = rw f refl; short = rw f refl }

abbrev pub passes_settling : List Row → Pending → ℕ → Type 0
passes_settling rows pending position = settle_passes rules false (between rows pending position).held ≡ true

-- what the walk does at an option of this id, which stands alone or has its value after the prefix
pub record IsOption (id : Text) (has : Part → Option Text) (make : Text → Part) (alone prefix : Text) : Type 0 where
  pub are : AreOf id has
  pub row_is : (value : Text) → row_of_part (make value) ≡ row id value
  pub no_file : (value : Text) → file_in (make value) ≡ None
  pub attached : (rows : List Row) (pending : Pending) (position : ℕ) (value : Text)
      → walked rules [] (between rows pending position) (prefix ++ value) ≡ between (put id value (settled_rows rules pending rows)) None position
  pub attached_passes : (rows : List Row) (pending : Pending) (position : ℕ) (value : Text) → passes_settling rows pending position
      → has_row id (settled_rows rules pending rows) ≡ false → turn_passes run_shape [] (between rows pending position) (prefix ++ value) ≡ true
  pub begins : (rows : List Row) (pending : Pending) (position : ℕ)
      → walked rules [] (between rows pending position) alone ≡ waits_for (settled_rows rules pending rows) id position
  pub begins_passes : (rows : List Row) (pending : Pending) (position : ℕ) → passes_settling rows pending position
      → turn_passes run_shape [] (between rows pending position) alone ≡ true
  pub takes_value : (rows : List Row) (position : ℕ) (value : Text) → IsPlainWord value
      → walked rules [] (waits_for rows id position) value ≡ between rows (Some (id, value ∷ [])) position
  pub takes_passes : (rows : List Row) (position : ℕ) (value : Text) → IsPlainWord value
      → turn_passes run_shape [] (waits_for rows id position) value ≡ true
  pub settles : (rows : List Row) (value : Text) → settled_rows rules (Some (id, value ∷ [])) rows ≡ put id value rows
  pub settles_passes : (rows : List Row) (position : ℕ) (value : Text) → has_row id rows ≡ false → passes_settling rows (Some (id, value ∷ [])) position

workers_are : AreOf (codes "workers") workers_in
workers_are = record { others = go }
  where
    go : (p : Part) → workers_in p ≡ None → bytes_eq (row_of_part p).id (codes "workers") ≡ false
    go (file name) e = refl
    go (workers value) e = absurd (some_is_not_none e)
    go (trace value) e = refl

trace_are : AreOf (codes "trace") trace_in
trace_are = record { others = go }
  where
    go : (p : Part) → trace_in p ≡ None → bytes_eq (row_of_part p).id (codes "trace") ≡ false
    go (file name) e = refl
    go (workers value) e = refl
    go (trace value) e = absurd (some_is_not_none e)

pub file_are : AreOf (codes "file") file_in
file_are = record { others = go }
  where
    go : (p : Part) → file_in p ≡ None → bytes_eq (row_of_part p).id (codes "file") ≡ false
    go (file name) e = absurd (some_is_not_none e)
    go (workers value) e = refl
    go (trace value) e = refl

pub workers_option : IsOption (codes "workers") workers_in workers (codes "--workers") (codes "--workers=")
unfolding walked
workers_option = record {
  are = workers_are;
  row_is = λ value. refl;
  no_file = λ value. refl;
  attached = λ rows pending position value. refl;
  attached_passes = λ rows pending position value settles new. rw (settles, new) refl;
  begins = λ rows pending position. refl;
  begins_passes = λ rows pending position settles. rw settles refl;
  takes_value = λ rows position value is_plain. rw (is_plain.dashes, is_plain.long, is_plain.short) refl;
  takes_passes = λ rows position value is_plain. rw (is_plain.dashes, is_plain.long, is_plain.short) refl;
  settles = λ rows value. refl;
  settles_passes = λ rows position value new. rw new refl;
}

pub trace_option : IsOption (codes "trace") trace_in trace (codes "--trace") (codes "--trace=")
unfolding walked
trace_option = record {
  are = trace_are;
  row_is = λ value. refl;
  no_file = λ value. refl;
  attached = λ rows pending position value. refl;
  attached_passes = λ rows pending position value settles new. rw (settles, new) refl;
  begins = λ rows pending position. refl;
  begins_passes = λ rows pending position settles. rw settles refl;
  takes_value = λ rows position value is_plain. rw (is_plain.dashes, is_plain.long, is_plain.short) refl;
  takes_passes = λ rows position value is_plain. rw (is_plain.dashes, is_plain.long, is_plain.short) refl;
  settles = λ rows value. refl;
  settles_passes = λ rows position value new. rw new refl;
}

-- a file that no file stands before
and_false : (b : Bool) → (b && false) ≡ false
and_false true = refl
and_false false = refl

pub at_file : (rows : List Row) (pending : Pending) (name : Text) → IsPlainWord name
    → walked rules [] (between rows pending 1) name ≡ between (settled_rows rules pending rows) (Some (codes "file", name ∷ [])) 2
unfolding walked
at_file rows None name is_plain = rw (is_plain.dashes, is_plain.long, is_plain.short) refl
at_file rows (Some p) name is_plain = rw (is_plain.dashes, is_plain.long, is_plain.short, and_false (bytes_eq p.0 (codes "file"))) refl

pub at_file_passes : (rows : List Row) (pending : Pending) (name : Text) → IsPlainWord name → passes_settling rows pending 1
    → turn_passes run_shape [] (between rows pending 1) name ≡ true
at_file_passes rows None name is_plain settles = rw (is_plain.dashes, is_plain.long, is_plain.short) refl
at_file_passes rows (Some p) name is_plain settles =
    rw (is_plain.dashes, is_plain.long, is_plain.short, and_false (bytes_eq p.0 (codes "file")), settles) refl

pub file_settles : (rows : List Row) (name : Text) → settled_rows rules (Some (codes "file", name ∷ [])) rows ≡ put (codes "file") name rows
file_settles rows name = refl

pub file_settles_passes : (rows : List Row) (position : ℕ) (name : Text) → has_row (codes "file") rows ≡ false
    → passes_settling rows (Some (codes "file", name ∷ [])) position
file_settles_passes rows position name new = rw new refl
