-- What `clap` reads in words that ask for a run, of a file or of a number.
use Rattle.std.proofs.Common.{◌≡◌, ℕ, zero, suc, ◌≤◌, ◌==◌, ◌&&◌, Bool, true, false, List, [], ◌∷◌, ◌++◌, Option, Some, None, is_some, codes, length, if◌then◌else◌}
use Rattle.std.proofs.Common.{refl, sym, ◌∙◌, ap, subst, arith, append_assoc, append-nil, option_map, option_and_then, drop, fold, nat_eq, unwrap_or}
use Rattle.std.specs.List.{cons_option, filter_map, list_all, starts_with}
use Rattle.std.specs.Str.{bytes_eq}
use Rattle.std.proofs.lemmas.Slice.Eq.{bytes_eq-Decides, starts_is}
use Rattle.std.proofs.lemmas.Bool.Decides.{Decides-eqb}
use Rattle.clap.specs.Lexer.{strip_byte}
use Rattle.clap.specs.Words.{Row, Text, built, first_of, matches_of, takes}
use Rattle.clap.specs.Walk.{Walk, finished, has_row, walked, with_default}
use Rattle.clap.specs.Simple.{entered}
use Rattle.clap.specs.Takes.{default_passes, entered_passes, is_valid, settle_passes, walk_passes}
use Rattle.tlm_model.specs.declared.trace.Trace.{Trace}
use Rattle.command_words.specs.Parser.{run_app}
use Rattle.command_words.specs.Words.{Part, CommandLine, file, workers, trace, file_in, workers_in, trace_in, asked, parts_of, part_of, joined, run_of, gen_of, gen_by, gen_asked, gen_line, seed_of}
use Rattle.command_words.specs.Words.{workers_of, trace_of, file_name, after_prefix, trace_or_file, workers_or_other, wants_value, only_one, one_or, run_line, one_to_nine, ten_to_sixteen}
use Rattle.command_words.proofs.ShapeFits.{is_some-gen_line, is_some-run_line}
use Rattle.command_words.proofs.WalkSteps.{rules, run_shape, trace_built, file_built, part_rows, between, Pending, passes_settling, plain_word, workers_option, trace_option}
use Rattle.command_words.proofs.Walks.{Stands, Reads, ReadsTwo, reads_attached, reads_two, reads_file}

-- ---- words as texts

is_prefixed : (prefix word value : Text) → after_prefix prefix word ≡ Some value → word ≡ prefix ++ value
is_prefixed prefix word value e = go (starts_with nat_eq word prefix) refl
  where
    go : (b : Bool) → starts_with nat_eq word prefix ≡ b → word ≡ prefix ++ value
    go true f =
        let is : Some (drop (length prefix) word) ≡ Some value = rw f at e in
        let rest : drop (length prefix) word ≡ value = cc in
        (starts_is Decides-eqb word prefix (starts_with nat_eq word prefix) refl).0 f ∙ ap (λ (v : Text). prefix ++ v) rest
    go false f = let no : None ≡ Some value = rw f at e in absurd (cc)

abbrev IsNoFlag : Text → Type 0
IsNoFlag word = strip_byte 45 word ≡ None

named_file : (word name : Text) → file_name word ≡ Some name → (word ≡ name) × IsNoFlag word
named_file [] name e = absurd (cc)
named_file (x ∷ xs) name e = go (x == 45) refl
  where
    go : (b : Bool) → (x == 45) ≡ b → (x ∷ xs ≡ name) × IsNoFlag (x ∷ xs)
    go true f = let no : None ≡ Some name = rw f at e in absurd (cc)
    go false f = let is : Some (x ∷ xs) ≡ Some name = rw f at e in (cc, rw f refl)

workers_no_flag : (value : Text) (n : ℕ) → workers_of value ≡ Some n → IsNoFlag value
workers_no_flag [] n e = absurd (cc)
workers_no_flag (d ∷ []) n e = go (d == 45) refl
  where
    go : (b : Bool) → (d == 45) ≡ b → IsNoFlag (d ∷ [])
    go true f =
        let is : d ≡ 45 = (Decides-eqb d 45).0 f in
        let no : one_to_nine 45 ≡ Some n = rw is at e in absurd (cc)
    go false f = rw f refl
workers_no_flag (t ∷ u ∷ []) n e = go (t == 45) refl
  where
    go : (b : Bool) → (t == 45) ≡ b → IsNoFlag (t ∷ u ∷ [])
    go true f =
        let is : t ≡ 45 = (Decides-eqb t 45).0 f in
        let no : ten_to_sixteen 45 u ≡ Some n = rw is at e in absurd (cc)
    go false f = rw f refl
workers_no_flag (t ∷ u ∷ x ∷ xs) n e = absurd (cc)

trace_no_flag : (value : Text) (t : Trace) → trace_of value ≡ Some t → IsNoFlag value
trace_no_flag value t e = go (bytes_eq value (codes "all")) (bytes_eq value (codes "accesses")) (bytes_eq value (codes "none")) refl refl refl
  where
    go : (a b c : Bool) → bytes_eq value (codes "all") ≡ a → bytes_eq value (codes "accesses") ≡ b → bytes_eq value (codes "none") ≡ c → IsNoFlag value
    go true b c f g h = rw ((bytes_eq-Decides value (codes "all")).0 f) refl
    go false true c f g h = rw ((bytes_eq-Decides value (codes "accesses")).0 g) refl
    go false false true f g h = rw ((bytes_eq-Decides value (codes "none")).0 h) refl
    go false false false f g h = let no : None ≡ Some t = rw (f, g, h) at e in absurd (cc)

-- ---- a part that comes once

filter_map-append : {X Y : Type 0} (has : X → Option Y) (xs ys : List X) → filter_map has (xs ++ ys) ≡ filter_map has xs ++ filter_map has ys
filter_map-append has [] ys = refl
filter_map-append has (x ∷ xs) ys = go (has x) (filter_map-append has xs ys)
  where
    go : (h : Option _) → filter_map has (xs ++ ys) ≡ filter_map has xs ++ filter_map has ys
        → cons_option h (filter_map has (xs ++ ys)) ≡ cons_option h (filter_map has xs) ++ filter_map has ys
    go None e = e
    go (Some y) e = ap (λ (more : List _). y ∷ more) e

first_of_one : {X : Type 0} (xs ys : List X) (y : X) → is_some (only_one (xs ++ y ∷ ys)) ≡ true → xs ≡ []
first_of_one [] ys y e = refl
first_of_one (x ∷ []) ys y e = absurd (cc)
first_of_one (x ∷ z ∷ xs) ys y e = absurd (cc)

first_of_one_or : {X : Type 0} (d : X) (xs ys : List X) (y : X) → is_some (one_or d (xs ++ y ∷ ys)) ≡ true → xs ≡ []
first_of_one_or d [] ys y e = refl
first_of_one_or d (x ∷ []) ys y e = absurd (cc)
first_of_one_or d (x ∷ z ∷ xs) ys y e = absurd (cc)

inner_some : {X Y : Type 0} (f : X → Option Y) (o : Option X) → is_some (option_and_then f o) ≡ true → is_some o ≡ true
inner_some f None e = e
inner_some f (Some x) e = refl

both_true : (a b c : Bool) → (a && (b && c)) ≡ true → (a ≡ true) × (b ≡ true) × (c ≡ true)
both_true true true true e = (refl, refl, refl)
both_true true true false e = absurd (cc)
both_true true false c e = absurd (cc)
both_true false b c e = absurd (cc)

abbrev IsAsked : List Part → Type 0
IsAsked parts = is_some (asked parts) ≡ true

each_some : (parts : List Part) → IsAsked parts → (is_some (only_one (filter_map file_in parts)) ≡ true)
    × (is_some (one_or (codes "4") (filter_map workers_in parts)) ≡ true) × (is_some (one_or (codes "all") (filter_map trace_in parts)) ≡ true)
each_some parts e =
    let three = both_true _ _ _ (sym (is_some-run_line (only_one (filter_map file_in parts))
    (option_and_then workers_of (one_or (codes "4") (filter_map workers_in parts)))
    (option_and_then trace_of (one_or (codes "all") (filter_map trace_in parts)))) ∙ e) in
    (three.0, inner_some workers_of _ three.1, inner_some trace_of _ three.2)

pub new_file : (seen tail : List Part) (name : Text) → IsAsked (seen ++ file name ∷ tail) → filter_map file_in seen ≡ []
new_file seen tail name e = first_of_one _ (filter_map file_in tail) name (rw filter_map-append at ((each_some (seen ++ file name ∷ tail) e).0))

new_workers : (seen tail : List Part) (value : Text) → IsAsked (seen ++ workers value ∷ tail) → filter_map workers_in seen ≡ []
new_workers seen tail value e =
    first_of_one_or (codes "4") _ (filter_map workers_in tail) value (rw filter_map-append at ((each_some (seen ++ workers value ∷ tail) e).1))

new_trace : (seen tail : List Part) (value : Text) → IsAsked (seen ++ trace value ∷ tail) → filter_map trace_in seen ≡ []
new_trace seen tail value e =
    first_of_one_or (codes "all") _ (filter_map trace_in tail) value (rw filter_map-append at ((each_some (seen ++ trace value ∷ tail) e).2))

-- ---- each word is read as its part

file_read : (seen tail : List Part) (w : Walk) (word : Text) (p : Part) (name : Option Text) → file_name word ≡ name → option_map file name ≡ Some p
    → Stands seen w → IsAsked (seen ++ p ∷ tail) → Reads seen w p word
file_read seen tail w word p None f e s once = absurd (cc)
file_read seen tail w word p (Some name) f e s once =
    let named = named_file word name f in
    let is : file name ≡ p = cc in
    let here : file word ≡ p = ap file named.0 ∙ is in
    let asked_here : IsAsked (seen ++ file word ∷ tail) = subst (λ (q : Part). IsAsked (seen ++ q ∷ tail)) (sym here) once in
    subst (λ (q : Part). Reads seen w q word) here (reads_file seen w word (plain_word word named.1) s (new_file seen tail word asked_here))

trace_read : (seen tail : List Part) (w : Walk) (word : Text) (p : Part) (value : Option Text) → after_prefix (codes "--trace=") word ≡ value
    → trace_or_file value word ≡ Some p → Stands seen w → IsAsked (seen ++ p ∷ tail) → Reads seen w p word
trace_read seen tail w word p None f e s once = file_read seen tail w word p (file_name word) refl e s once
trace_read seen tail w word p (Some value) f e s once = go (trace_of value) e
  where
    go : (t : Option Trace) → option_map (λ _. trace value) t ≡ Some p → Reads seen w p word
    go None g = absurd (cc)
    go (Some t) g =
        let is : trace value ≡ p = cc in
        let asked_here : IsAsked (seen ++ trace value ∷ tail) = subst (λ (q : Part). IsAsked (seen ++ q ∷ tail)) (sym is) once in
        subst (λ (v : Text). Reads seen w p v) (sym (is_prefixed (codes "--trace=") word value f))
        (subst (λ (q : Part). Reads seen w q (codes "--trace=" ++ value)) is
        (reads_attached _ _ _ _ _ trace_option seen w value s (new_trace seen tail value asked_here)))

word_read : (seen tail : List Part) (w : Walk) (word : Text) (p : Part) (value : Option Text) → after_prefix (codes "--workers=") word ≡ value
    → workers_or_other value word ≡ Some p → Stands seen w → IsAsked (seen ++ p ∷ tail) → Reads seen w p word
word_read seen tail w word p None f e s once = trace_read seen tail w word p (after_prefix (codes "--trace=") word) refl e s once
word_read seen tail w word p (Some value) f e s once = go (workers_of value) e
  where
    go : (n : Option ℕ) → option_map (λ _. workers value) n ≡ Some p → Reads seen w p word
    go None g = absurd (cc)
    go (Some n) g =
        let is : workers value ≡ p = cc in
        let asked_here : IsAsked (seen ++ workers value ∷ tail) = subst (λ (q : Part). IsAsked (seen ++ q ∷ tail)) (sym is) once in
        subst (λ (v : Text). Reads seen w p v) (sym (is_prefixed (codes "--workers=") word value f))
        (subst (λ (q : Part). Reads seen w q (codes "--workers=" ++ value)) is
        (reads_attached _ _ _ _ _ workers_option seen w value s (new_workers seen tail value asked_here)))

two_workers : (seen tail : List Part) (w : Walk) (value : Text) (p : Part) (n : Option ℕ) → workers_of value ≡ n → option_map (λ _. workers value) n ≡ Some p
    → Stands seen w → IsAsked (seen ++ p ∷ tail) → ReadsTwo seen w p (codes "--workers") value
two_workers seen tail w value p None f g s once = absurd (cc)
two_workers seen tail w value p (Some n) f g s once =
    let is : workers value ≡ p = cc in
    let asked_here : IsAsked (seen ++ workers value ∷ tail) = subst (λ (q : Part). IsAsked (seen ++ q ∷ tail)) (sym is) once in
    subst (λ (q : Part). ReadsTwo seen w q (codes "--workers") value) is
    (reads_two _ _ _ _ _ workers_option seen w value (plain_word value (workers_no_flag value n f)) s (new_workers seen tail value asked_here))

two_trace : (seen tail : List Part) (w : Walk) (value : Text) (p : Part) (t : Option Trace) → trace_of value ≡ t → option_map (λ _. trace value) t ≡ Some p
    → Stands seen w → IsAsked (seen ++ p ∷ tail) → ReadsTwo seen w p (codes "--trace") value
two_trace seen tail w value p None f g s once = absurd (cc)
two_trace seen tail w value p (Some t) f g s once =
    let is : trace value ≡ p = cc in
    let asked_here : IsAsked (seen ++ trace value ∷ tail) = subst (λ (q : Part). IsAsked (seen ++ q ∷ tail)) (sym is) once in
    subst (λ (q : Part). ReadsTwo seen w q (codes "--trace") value) is
    (reads_two _ _ _ _ _ trace_option seen w value (plain_word value (trace_no_flag value t f)) s (new_trace seen tail value asked_here))

-- ---- all words are read as their parts

record Walked (parts : List Part) (w : Walk) (words : List Text) : Type 0 where
  stands : Stands parts (fold (walked rules []) w words)
  passes : walk_passes run_shape [] w words ≡ true

walked_nothing : (seen : List Part) (w : Walk) → Stands seen w → Walked seen w []
unfolding walk_passes
walked_nothing seen w s = record { stands = s; passes = refl }

walked_more : (seen tail : List Part) (w : Walk) (p : Part) (word : Text) (rest : List Text) → Reads seen w p word
    → Walked ((seen ++ p ∷ []) ++ tail) (walked rules [] w word) rest → Walked (seen ++ p ∷ tail) w (word ∷ rest)
unfolding walk_passes
walked_more seen tail w p word rest r later =
    subst (λ (parts : List Part). Walked parts w (word ∷ rest)) (append_assoc seen (p ∷ []) tail)
    (record { stands = later.stands; passes = rw (r.passes, later.passes) refl })

walked_two : (seen tail : List Part) (w : Walk) (p : Part) (word value : Text) (rest : List Text) → ReadsTwo seen w p word value
    → Walked ((seen ++ p ∷ []) ++ tail) (walked rules [] (walked rules [] w word) value) rest → Walked (seen ++ p ∷ tail) w (word ∷ value ∷ rest)
unfolding walk_passes
walked_two seen tail w p word value rest r later =
    subst (λ (parts : List Part). Walked parts w (word ∷ value ∷ rest)) (append_assoc seen (p ∷ []) tail)
    (record { stands = later.stands; passes = rw (r.passes, r.then_passes, later.passes) refl })

value_read : (seen tail : List Part) (w : Walk) (word value : Text) (p : Part) → wants_value word ≡ true → part_of (word ++ 61 ∷ value) ≡ Some p
    → Stands seen w → IsAsked (seen ++ p ∷ tail) → ReadsTwo seen w p word value
value_read seen tail w word value p e f s once = go (bytes_eq word (codes "--workers")) (bytes_eq word (codes "--trace")) refl refl
  where
    go : (a b : Bool) → bytes_eq word (codes "--workers") ≡ a → bytes_eq word (codes "--trace") ≡ b → ReadsTwo seen w p word value
    go true b g h = subst (λ (v : Text). part_of (v ++ 61 ∷ value) ≡ Some p → ReadsTwo seen w p v value)
        (sym ((bytes_eq-Decides word (codes "--workers")).0 g))
        (λ read. two_workers seen tail w value p (workers_of value) refl read s once) f
    go false true g h = subst (λ (v : Text). part_of (v ++ 61 ∷ value) ≡ Some p → ReadsTwo seen w p v value)
        (sym ((bytes_eq-Decides word (codes "--trace")).0 h))
        (λ read. two_trace seen tail w value p (trace_of value) refl read s once) f
    go false false g h = let no : false ≡ true = rw (g, h) at e in absurd (cc)

-- words of this length are read as their parts
abbrev AreWalked : ℕ → Type 0
AreWalked n = (words : List Text) → length words ≤ n → (seen parts : List Part) (w : Walk) → Stands seen w → parts_of (joined words) ≡ Some parts
    → IsAsked (seen ++ parts) → Walked (seen ++ parts) w words

asked_later : (seen tail : List Part) (p : Part) → IsAsked (seen ++ p ∷ tail) → IsAsked ((seen ++ p ∷ []) ++ tail)
asked_later seen tail p once = subst (λ (parts : List Part). IsAsked parts) (sym (append_assoc seen (p ∷ []) tail)) once

one_word : (n : ℕ) → AreWalked n → (word : Text) (rest : List Text) → length rest ≤ n → (seen parts : List Part) (w : Walk) → Stands seen w
    → parts_of (word ∷ joined rest) ≡ Some parts → IsAsked (seen ++ parts) → Walked (seen ++ parts) w (word ∷ rest)
one_word n later word rest short seen parts w s e once = go (part_of word) (parts_of (joined rest)) refl refl e
  where
    go : (part : Option Part) (more : Option (List Part)) → part_of word ≡ part → parts_of (joined rest) ≡ more
        → option_and_then (λ (p : Part). option_map (λ (ps : List Part). p ∷ ps) more) part ≡ Some parts → Walked (seen ++ parts) w (word ∷ rest)
    go None more f g h = absurd (cc)
    go (Some p) None f g h = absurd (cc)
    go (Some p) (Some tail) f g h =
        let is : p ∷ tail ≡ parts = cc in
        let asked_here : IsAsked (seen ++ p ∷ tail) = subst (λ (ps : List Part). IsAsked (seen ++ ps)) (sym is) once in
        let r : Reads seen w p word = word_read seen tail w word p (after_prefix (codes "--workers=") word) refl f s asked_here in
        subst (λ (ps : List Part). Walked (seen ++ ps) w (word ∷ rest)) is
        (walked_more seen tail w p word rest r
        (later rest short (seen ++ p ∷ []) tail (walked rules [] w word) r.stands g (asked_later seen tail p asked_here)))

two_words : (n : ℕ) → AreWalked n → (word value : Text) (rest : List Text) → length rest ≤ n → (seen parts : List Part) (w : Walk) → Stands seen w
    → wants_value word ≡ true → parts_of ((word ++ 61 ∷ value) ∷ joined rest) ≡ Some parts → IsAsked (seen ++ parts)
    → Walked (seen ++ parts) w (word ∷ value ∷ rest)
two_words n later word value rest short seen parts w s wants e once = go (part_of (word ++ 61 ∷ value)) (parts_of (joined rest)) refl refl e
  where
    go : (part : Option Part) (more : Option (List Part)) → part_of (word ++ 61 ∷ value) ≡ part → parts_of (joined rest) ≡ more
        → option_and_then (λ (p : Part). option_map (λ (ps : List Part). p ∷ ps) more) part ≡ Some parts
        → Walked (seen ++ parts) w (word ∷ value ∷ rest)
    go None more f g h = absurd (cc)
    go (Some p) None f g h = absurd (cc)
    go (Some p) (Some tail) f g h =
        let is : p ∷ tail ≡ parts = cc in
        let asked_here : IsAsked (seen ++ p ∷ tail) = subst (λ (ps : List Part). IsAsked (seen ++ ps)) (sym is) once in
        let r : ReadsTwo seen w p word value = value_read seen tail w word value p wants f s asked_here in
        subst (λ (ps : List Part). Walked (seen ++ ps) w (word ∷ value ∷ rest)) is
        (walked_two seen tail w p word value rest r
        (later rest short (seen ++ p ∷ []) tail (walked rules [] (walked rules [] w word) value) r.stands g (asked_later seen tail p asked_here)))

alone_is_no_part : (word : Text) (parts : List Part) → wants_value word ≡ true → parts_of (word ∷ []) ≡ Some parts → ⊥
alone_is_no_part word parts e f = go (bytes_eq word (codes "--workers")) (bytes_eq word (codes "--trace")) refl refl
  where
    go : (a b : Bool) → bytes_eq word (codes "--workers") ≡ a → bytes_eq word (codes "--trace") ≡ b → ⊥
    go true b g h = let no : None ≡ Some parts = rw ((bytes_eq-Decides word (codes "--workers")).0 g) at f in cc
    go false true g h = let no : None ≡ Some parts = rw ((bytes_eq-Decides word (codes "--trace")).0 h) at f in cc
    go false false g h = let no : false ≡ true = rw (g, h) at e in cc

option_first : (n : ℕ) → AreWalked n → (word : Text) (rest : List Text) → length rest ≤ n → (seen parts : List Part) (w : Walk) → Stands seen w
    → wants_value word ≡ true → parts_of (joined (word ∷ rest)) ≡ Some parts → IsAsked (seen ++ parts) → Walked (seen ++ parts) w (word ∷ rest)
option_first n later word [] short seen parts w s wants e once = absurd (alone_is_no_part word parts wants (rw wants at e))
option_first n later word (value ∷ rest) short seen parts w s wants e once =
    two_words n later word value rest (omega arith) seen parts w s wants (rw wants at e) once

all_walked : (n : ℕ) → AreWalked n
all_walked n [] short seen parts w s e once =
    let is : [] ≡ parts = cc in
    let same : seen ≡ seen ++ parts = sym (append-nil seen) ∙ ap (λ (ps : List Part). seen ++ ps) is in
    subst (λ (ps : List Part). Walked ps w []) same (walked_nothing seen w s)
all_walked zero (word ∷ rest) short seen parts w s e once = absurd (omega arith)
all_walked (suc n) (word ∷ rest) short seen parts w s e once = go (all_walked n) (wants_value word) refl
  where
    go : AreWalked n → (b : Bool) → wants_value word ≡ b → Walked (seen ++ parts) w (word ∷ rest)
    go later true f = option_first n later word rest (omega arith) seen parts w s f e once
    go later false f = one_word n later word rest (omega arith) seen parts w s (rw f at e) once

-- ---- the matches

starts : Stands [] (between [] None 1)
starts = record { rows = []; pending = None; position = 1; is = refl; settled = refl; first = λ e. refl; passes = refl }

same_rows : (b : Bool) (rows : List Row) → (if b then rows else rows) ≡ rows
same_rows true rows = refl
same_rows false rows = refl

-- no rule has a default value
no_default : (rows : List Row) → fold with_default rows rules ≡ rows
no_default rows =
    ap (λ (more : List Row). with_default (with_default more trace_built) file_built) (same_rows (has_row (codes "workers") rows) rows)
    ∙ ap (λ (more : List Row). with_default more file_built) (same_rows (has_row (codes "trace") rows) rows)
    ∙ same_rows (has_row (codes "file") rows) rows

finished_is : (parts : List Part) (w : Walk) → Stands parts w → finished rules w.held ≡ part_rows parts
finished_is parts w s = ap (λ (v : Walk). finished rules v.held) s.is ∙ ap (λ (rows : List Row). fold with_default rows rules) s.settled ∙ no_default (part_rows parts)

pub record IsReadAs (words : List Text) (parts : List Part) : Type 0 where
  pub rows : matches_of run_app words ≡ part_rows parts
  pub taken : takes run_app words ≡ true

-- the parse that ends here passes
abbrev ends_well : Walk → Bool → Bool
ends_well w walk_is_well =
    entered_passes (built run_app) w.stopped && (walk_is_well && (settle_passes rules false w.held
    && (list_all default_passes rules && is_valid run_shape (finished rules w.held) (is_some (entered (built run_app) w.stopped)))))

ends : (rows : List Row) (pending : Pending) (position : ℕ) (b : Bool) → passes_settling rows pending position → b ≡ true
    → ends_well (between rows pending position) b ≡ true
ends rows pending position b passes e = rw (e, passes) refl

pub is_read_as : (words : List Text) (parts : List Part) → parts_of (joined words) ≡ Some parts → IsAsked parts → IsReadAs words parts
is_read_as words parts e once =
    let all = all_walked (length words) words (omega arith) [] parts (between [] None 1) starts e once in
    record {
      rows = finished_is parts _ all.stands;
      taken = ap (λ (w : Walk). ends_well w (walk_passes run_shape [] (between [] None 1) words)) all.stands.is
          ∙ ends all.stands.rows all.stands.pending all.stands.position _ all.stands.passes all.passes;
    }

-- ---- the values

abbrev pub first_in : List Text → Option Text
first_in [] = None
first_in (x ∷ xs) = Some x

file_first : (parts : List Part) → first_of (codes "file") (part_rows parts) ≡ first_in (filter_map file_in parts)
file_first [] = refl
file_first (file x ∷ ps) = refl
file_first (workers x ∷ ps) = file_first ps
file_first (trace x ∷ ps) = file_first ps

workers_first : (parts : List Part) → first_of (codes "workers") (part_rows parts) ≡ first_in (filter_map workers_in parts)
workers_first [] = refl
workers_first (file x ∷ ps) = workers_first ps
workers_first (workers x ∷ ps) = refl
workers_first (trace x ∷ ps) = workers_first ps

trace_first : (parts : List Part) → first_of (codes "trace") (part_rows parts) ≡ first_in (filter_map trace_in parts)
trace_first [] = refl
trace_first (file x ∷ ps) = trace_first ps
trace_first (workers x ∷ ps) = trace_first ps
trace_first (trace x ∷ ps) = refl

only_first : (xs : List Text) → is_some (only_one xs) ≡ true → first_in xs ≡ only_one xs
only_first [] e = refl
only_first (x ∷ []) e = refl
only_first (x ∷ y ∷ xs) e = absurd (cc)

one_or_first : {Y : Type 0} (read : Text → Option Y) (d : Text) (xs : List Text) → is_some (one_or d xs) ≡ true
    → read (unwrap_or (first_in xs) d) ≡ option_and_then read (one_or d xs)
one_or_first read d [] e = refl
one_or_first read d (x ∷ []) e = refl
one_or_first read d (x ∷ y ∷ xs) e = absurd (cc)

abbrev pub run_in_rows : List Row → Option CommandLine
run_in_rows rows = run_line (first_of (codes "file") rows) (workers_of (unwrap_or (first_of (codes "workers") rows) (codes "4")))
    (trace_of (unwrap_or (first_of (codes "trace") rows) (codes "all")))

asked_is : (parts : List Part) → IsAsked parts → run_in_rows (part_rows parts) ≡ asked parts
asked_is parts once =
    let each = each_some parts once in
    let name = file_first parts ∙ only_first _ each.0 in
    let count = ap (λ (o : Option Text). workers_of (unwrap_or o (codes "4"))) (workers_first parts)
    ∙ one_or_first workers_of (codes "4") (filter_map workers_in parts) each.1 in
    let shown = ap (λ (o : Option Text). trace_of (unwrap_or o (codes "all"))) (trace_first parts)
    ∙ one_or_first trace_of (codes "all") (filter_map trace_in parts) each.2 in
    rw (name, count, shown) refl

-- the parts of words that ask for a run
pub record HasParts (words : List Text) : Type 0 where
  pub parts : List Part
  pub are : parts_of (joined words) ≡ Some parts
  pub once : IsAsked parts

pub has_parts : (words : List Text) → is_some (run_of words) ≡ true → HasParts words
has_parts words e = go (parts_of (joined words)) refl
  where
    go : (o : Option (List Part)) → parts_of (joined words) ≡ o → HasParts words
    go None f = let no : false ≡ true = rw f at e in absurd (cc)
    go (Some ps) f = record { parts = ps; are = f; once = rw f at e }

-- in words that ask for a run, `clap` reads just that run, and refuses nothing
pub run_is_read : (words : List Text) → is_some (run_of words) ≡ true → run_in_rows (matches_of run_app words) ≡ run_of words
run_is_read words e =
    let h = has_parts words e in
    ap run_in_rows (is_read_as words h.parts h.are h.once).rows ∙ asked_is h.parts h.once ∙ sym (ap (option_and_then asked) h.are)

pub run_is_taken : (words : List Text) → is_some (run_of words) ≡ true → takes run_app words ≡ true
run_is_taken words e = let h = has_parts words e in (is_read_as words h.parts h.are h.once).taken

-- ---- the words after `gen`, which are those of a run with a seed for its file and without a trace

two_true : (a b : Bool) → (a && b) ≡ true → (a ≡ true) × (b ≡ true)
two_true true true e = (refl, refl)
two_true true false e = absurd (cc)
two_true false b e = absurd (cc)

-- the parts ask for a seed, and for no trace
record IsGen (parts : List Part) (traces : List Text) : Type 0 where
  no_trace : traces ≡ []
  seed : is_some (only_one (filter_map file_in parts)) ≡ true
  count : is_some (option_and_then workers_of (one_or (codes "4") (filter_map workers_in parts))) ≡ true

is_gen : (parts : List Part) (traces : List Text) → is_some (gen_by traces parts) ≡ true → IsGen parts traces
is_gen parts [] e =
    let both = two_true _ _ (sym (is_some-gen_line _ _) ∙ e) in
    record { no_trace = refl; seed = inner_some seed_of _ both.0; count = both.1 }
is_gen parts (t ∷ traces) e = absurd (cc)

gen_asks : (parts : List Part) → is_some (gen_asked parts) ≡ true → IsAsked parts
gen_asks parts e =
    let g = is_gen parts (filter_map trace_in parts) e in
    is_some-run_line _ _ _ ∙ rw (g.no_trace, g.seed, g.count) refl

abbrev pub gen_in_rows : List Row → Option CommandLine
gen_in_rows rows = gen_line (option_and_then seed_of (first_of (codes "file") rows)) (workers_of (unwrap_or (first_of (codes "workers") rows) (codes "4")))

gen_asked_is : (parts : List Part) → is_some (gen_asked parts) ≡ true → gen_in_rows (part_rows parts) ≡ gen_asked parts
gen_asked_is parts e =
    let g = is_gen parts (filter_map trace_in parts) e in
    let name = file_first parts ∙ only_first _ g.seed in
    let count = ap (λ (o : Option Text). workers_of (unwrap_or o (codes "4"))) (workers_first parts)
    ∙ one_or_first workers_of (codes "4") (filter_map workers_in parts) (inner_some workers_of _ g.count) in
    rw (name, count, g.no_trace) refl

record HasGenParts (words : List Text) : Type 0 where
  parts : List Part
  are : parts_of (joined words) ≡ Some parts
  asked : is_some (gen_asked parts) ≡ true

has_gen_parts : (words : List Text) → is_some (gen_of words) ≡ true → HasGenParts words
has_gen_parts words e = go (parts_of (joined words)) refl
  where
    go : (o : Option (List Part)) → parts_of (joined words) ≡ o → HasGenParts words
    go None f = let no : false ≡ true = rw f at e in absurd (cc)
    go (Some ps) f = record { parts = ps; are = f; asked = rw f at e }

pub gen_is_run : (words : List Text) → is_some (gen_of words) ≡ true → is_some (run_of words) ≡ true
gen_is_run words e = let h = has_gen_parts words e in rw h.are (gen_asks h.parts h.asked)

-- in words that ask for what is generated of a seed, `clap` reads just that
pub gen_is_read : (words : List Text) → is_some (gen_of words) ≡ true → gen_in_rows (matches_of run_app words) ≡ gen_of words
gen_is_read words e =
    let h = has_gen_parts words e in
    ap gen_in_rows (is_read_as words h.parts h.are (gen_asks h.parts h.asked)).rows ∙ gen_asked_is h.parts h.asked ∙ sym (ap (option_and_then gen_asked) h.are)
