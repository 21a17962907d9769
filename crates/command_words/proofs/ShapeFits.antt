-- Words ask for a run, of a file or of a number, just where the kinds of their parts fit.
use Rattle.std.proofs.Common.{◌≡◌, ℕ, suc, Bool, true, false, ◌&&◌, List, [], ◌∷◌, Option, Some, None, is_some, codes, length, map, filter, if◌then◌else◌}
use Rattle.std.proofs.Common.{option_map, option_and_then, refl, sym, ◌∙◌, ap, ap₂, subst, arith}
use Rattle.std.specs.List.{filter_map}
use Rattle.std.specs.Option.{option_map_or}
use Rattle.command_words.specs.Words.{Part, Text, file, workers, trace, after_prefix, asked, parts_of, part_of, run_line, only_one, one_or}
use Rattle.command_words.specs.Words.{workers_of, seed_of, trace_of, file_name, trace_or_file, workers_or_other, file_in, workers_in, trace_in, gen_line, gen_by, gen_asked}
use Rattle.command_words.specs.Shape.{kind_of, kinds_of, fits, fits_gen, is_file, is_seed, is_workers, is_trace, is_one, is_none, is_at_most_one}
use Rattle.command_words.specs.declared.shape.PartKind.{PartKind}
use Rattle.tlm_model.specs.declared.trace.Trace.{Trace}

-- ---- the kinds are those of the parts

pub kinds_of-parts : (words : List Text) → kinds_of words ≡ option_map (map kind_of) (parts_of words)
kinds_of-parts [] = refl
kinds_of-parts (word ∷ rest) = go (part_of word) (kinds_of rest) (parts_of rest) (kinds_of-parts rest)
  where
    go : (part : Option Part) (kinds : Option (List PartKind)) (parts : Option (List Part)) → kinds ≡ option_map (map kind_of) parts
        → option_and_then (λ (kind : PartKind). option_map (λ (more : List PartKind). kind ∷ more) kinds) (option_map kind_of part)
        ≡ option_map (map kind_of) (option_and_then (λ (p : Part). option_map (λ (more : List Part). p ∷ more) parts) part)
    go None kinds parts e = refl
    go (Some p) kinds None e = rw e refl
    go (Some p) kinds (Some ps) e = rw e refl

-- ---- the values of the parts that are read are right

abbrev pub IsRight : Part → Type 0
IsRight (file name) = Unit {0}
IsRight (workers value) = is_some (workers_of value) ≡ true
IsRight (trace value) = is_some (trace_of value) ≡ true

abbrev pub AreRight : List Part → Type 0
AreRight [] = Unit {0}
AreRight (p ∷ ps) = IsRight p × AreRight ps

workers_right : (value : Text) (n : Option ℕ) (p : Part) → workers_of value ≡ n → option_map (λ _. workers value) n ≡ Some p → IsRight p
workers_right value None p e h = absurd (cc)
workers_right value (Some n) p e h =
    let is : workers value ≡ p = cc in
    subst (λ (q : Part). IsRight q) is (ap is_some e)

trace_right : (value : Text) (t : Option Trace) (p : Part) → trace_of value ≡ t → option_map (λ _. trace value) t ≡ Some p → IsRight p
trace_right value None p e h = absurd (cc)
trace_right value (Some t) p e h =
    let is : trace value ≡ p = cc in
    subst (λ (q : Part). IsRight q) is (ap is_some e)

file_right : (name : Option Text) (p : Part) → option_map file name ≡ Some p → IsRight p
file_right None p h = absurd (cc)
file_right (Some name) p h =
    let is : file name ≡ p = cc in
    subst (λ (q : Part). IsRight q) is tt

trace_or_file_right : (value : Option Text) (word : Text) (p : Part) → trace_or_file value word ≡ Some p → IsRight p
trace_or_file_right None word p h = file_right (file_name word) p h
trace_or_file_right (Some value) word p h = trace_right value (trace_of value) p refl h

pub part_right : (value : Option Text) (word : Text) (p : Part) → workers_or_other value word ≡ Some p → IsRight p
part_right None word p h = trace_or_file_right (after_prefix (codes "--trace=") word) word p h
part_right (Some value) word p h = workers_right value (workers_of value) p refl h

pub parts_right : (words : List Text) (parts : List Part) → parts_of words ≡ Some parts → AreRight parts
parts_right [] parts h = let e : [] ≡ parts = cc in subst (λ (ps : List Part). AreRight ps) e tt
parts_right (word ∷ rest) parts h = go (part_of word) (parts_of rest) (λ ps f. parts_right rest ps f) refl refl h
  where
    go : (part : Option Part) (more : Option (List Part)) → ((ps : List Part) → parts_of rest ≡ Some ps → AreRight ps)
        → part_of word ≡ part → parts_of rest ≡ more
        → option_and_then (λ (p : Part). option_map (λ (ps : List Part). p ∷ ps) more) part ≡ Some parts → AreRight parts
    go None more rights e f g = absurd (cc)
    go (Some p) None rights e f g = absurd (cc)
    go (Some p) (Some ps) rights e f g =
        let is : p ∷ ps ≡ parts = cc in
        subst (λ (qs : List Part). AreRight qs) is (part_right (after_prefix (codes "--workers=") word) word p e, rights ps f)

-- ---- the kinds fit just where the parts ask for a run

one_is : (xs : List Text) (ks : List PartKind) → length xs ≡ length ks → is_some (only_one xs) ≡ is_one ks
one_is [] [] e = refl
one_is [] (k ∷ ks) e = absurd (omega arith)
one_is (x ∷ xs) [] e = absurd (omega arith)
one_is (x ∷ []) (k ∷ []) e = refl
one_is (x ∷ []) (k ∷ l ∷ ks) e = absurd (omega arith)
one_is (x ∷ y ∷ xs) (k ∷ []) e = absurd (omega arith)
one_is (x ∷ y ∷ xs) (k ∷ l ∷ ks) e = refl

abbrev AllRead : {Y : Type 0} → (Text → Option Y) → List Text → Type 0
AllRead read [] = Unit {0}
AllRead read (x ∷ xs) = (is_some (read x) ≡ true) × AllRead read xs

at_most_one_is : {Y : Type 0} (read : Text → Option Y) (default : Text) (xs : List Text) (ks : List PartKind) → is_some (read default) ≡ true
    → AllRead read xs → length xs ≡ length ks → is_some (option_and_then read (one_or default xs)) ≡ is_at_most_one ks
at_most_one_is read default [] [] d r e = d
at_most_one_is read default [] (k ∷ ks) d r e = absurd (omega arith)
at_most_one_is read default (x ∷ xs) [] d r e = absurd (omega arith)
at_most_one_is read default (x ∷ []) (k ∷ []) d r e = r.0
at_most_one_is read default (x ∷ []) (k ∷ l ∷ ks) d r e = absurd (omega arith)
at_most_one_is read default (x ∷ y ∷ xs) (k ∷ []) d r e = absurd (omega arith)
at_most_one_is read default (x ∷ y ∷ xs) (k ∷ l ∷ ks) d r e = refl

files_many : (ps : List Part) → length (filter_map file_in ps) ≡ length (filter is_file (map kind_of ps))
files_many [] = refl
files_many (file x ∷ ps) = ap suc (files_many ps)
files_many (workers x ∷ ps) = files_many ps
files_many (trace x ∷ ps) = files_many ps

workers_many : (ps : List Part) → length (filter_map workers_in ps) ≡ length (filter is_workers (map kind_of ps))
workers_many [] = refl
workers_many (file x ∷ ps) = workers_many ps
workers_many (workers x ∷ ps) = ap suc (workers_many ps)
workers_many (trace x ∷ ps) = workers_many ps

traces_many : (ps : List Part) → length (filter_map trace_in ps) ≡ length (filter is_trace (map kind_of ps))
traces_many [] = refl
traces_many (file x ∷ ps) = traces_many ps
traces_many (workers x ∷ ps) = traces_many ps
traces_many (trace x ∷ ps) = ap suc (traces_many ps)

workers_read : (ps : List Part) → AreRight ps → AllRead workers_of (filter_map workers_in ps)
workers_read [] r = tt
workers_read (file x ∷ ps) r = workers_read ps r.1
workers_read (workers x ∷ ps) r = (r.0, workers_read ps r.1)
workers_read (trace x ∷ ps) r = workers_read ps r.1

traces_read : (ps : List Part) → AreRight ps → AllRead trace_of (filter_map trace_in ps)
traces_read [] r = tt
traces_read (file x ∷ ps) r = traces_read ps r.1
traces_read (workers x ∷ ps) r = traces_read ps r.1
traces_read (trace x ∷ ps) r = (r.0, traces_read ps r.1)

pub is_some-run_line : (f : Option Text) (n : Option ℕ) (t : Option Trace) → is_some (run_line f n t) ≡ is_some f && (is_some n && is_some t)
is_some-run_line None n t = refl
is_some-run_line (Some f) None t = refl
is_some-run_line (Some f) (Some n) None = refl
is_some-run_line (Some f) (Some n) (Some t) = refl

pub fits-kinds : (ps : List Part) → AreRight ps → fits (map kind_of ps) ≡ is_some (asked ps)
fits-kinds ps r = sym (is_some-run_line _ _ _
    ∙ ap₂ (λ (a b : Bool). a && b) (one_is _ _ (files_many ps))
    (ap₂ (λ (a b : Bool). a && b) (at_most_one_is workers_of (codes "4") _ _ refl (workers_read ps r) (workers_many ps))
    (at_most_one_is trace_of (codes "all") _ _ refl (traces_read ps r) (traces_many ps))))

pub fits_just_runs : (words : List Text) → option_map_or (λ (ks : List PartKind). fits ks) (kinds_of words) false ≡ is_some (option_and_then asked (parts_of words))
fits_just_runs words = rw kinds_of-parts (go (parts_of words) refl)
  where
    go : (parts : Option (List Part)) → parts_of words ≡ parts
        → option_map_or (λ (ks : List PartKind). fits ks) (option_map (map kind_of) parts) false ≡ is_some (option_and_then asked parts)
    go None e = refl
    go (Some ps) e = fits-kinds ps (parts_right words ps e)

-- ---- the same where a seed stands in the place of the file

abbrev names_seed : Text → Bool
names_seed name = is_some (seed_of name)

seeds_many : (ps : List Part) → length (filter names_seed (filter_map file_in ps)) ≡ length (filter is_seed (map kind_of ps))
seeds_many [] = refl
seeds_many (file x ∷ ps) = go (names_seed x) (seeds_many ps)
  where
    go : (b : Bool) → length (filter names_seed (filter_map file_in ps)) ≡ length (filter is_seed (map kind_of ps))
        → length (if b then x ∷ filter names_seed (filter_map file_in ps) else filter names_seed (filter_map file_in ps))
        ≡ length (if b then kind_of (file x) ∷ filter is_seed (map kind_of ps) else filter is_seed (map kind_of ps))
    go true e = ap suc e
    go false e = e
seeds_many (workers x ∷ ps) = seeds_many ps
seeds_many (trace x ∷ ps) = seeds_many ps

one_by : (b : Bool) (x : Text) (ks : List PartKind) → length (if b then x ∷ [] else []) ≡ length ks → b ≡ is_one ks
one_by true x [] e = absurd (omega arith)
one_by true x (k ∷ []) e = refl
one_by true x (k ∷ l ∷ ks) e = absurd (omega arith)
one_by false x [] e = refl
one_by false x (k ∷ ks) e = absurd (omega arith)

one_seed_is : (xs : List Text) (ks ss : List PartKind) → length xs ≡ length ks → length (filter names_seed xs) ≡ length ss
    → is_some (option_and_then seed_of (only_one xs)) ≡ is_one ks && is_one ss
one_seed_is [] [] ss e f = refl
one_seed_is [] (k ∷ ks) ss e f = absurd (omega arith)
one_seed_is (x ∷ xs) [] ss e f = absurd (omega arith)
one_seed_is (x ∷ []) (k ∷ []) ss e f = one_by (names_seed x) x ss f
one_seed_is (x ∷ []) (k ∷ l ∷ ks) ss e f = absurd (omega arith)
one_seed_is (x ∷ y ∷ xs) (k ∷ []) ss e f = absurd (omega arith)
one_seed_is (x ∷ y ∷ xs) (k ∷ l ∷ ks) ss e f = refl

pub is_some-gen_line : (s n : Option ℕ) → is_some (gen_line s n) ≡ is_some s && is_some n
is_some-gen_line None n = refl
is_some-gen_line (Some s) None = refl
is_some-gen_line (Some s) (Some n) = refl

with_true : (b : Bool) → b && true ≡ b
with_true true = refl
with_true false = refl

never : (a b : Bool) → a && (b && false) ≡ false
never true true = refl
never true false = refl
never false b = refl

gen_by_kinds : (ps : List Part) → AreRight ps → (ts : List Text) (ks : List PartKind) → length ts ≡ length ks
    → (is_one (filter is_file (map kind_of ps)) && is_one (filter is_seed (map kind_of ps)))
    && (is_at_most_one (filter is_workers (map kind_of ps)) && is_none ks) ≡ is_some (gen_by ts ps)
gen_by_kinds ps r [] [] e = sym (is_some-gen_line _ _
    ∙ ap₂ (λ (a b : Bool). a && b) (one_seed_is _ _ _ (files_many ps) (seeds_many ps))
    (at_most_one_is workers_of (codes "4") _ _ refl (workers_read ps r) (workers_many ps) ∙ sym (with_true _)))
gen_by_kinds ps r [] (k ∷ ks) e = absurd (omega arith)
gen_by_kinds ps r (t ∷ ts) [] e = absurd (omega arith)
gen_by_kinds ps r (t ∷ ts) (k ∷ ks) e = never _ _

pub fits_gen-kinds : (ps : List Part) → AreRight ps → fits_gen (map kind_of ps) ≡ is_some (gen_asked ps)
fits_gen-kinds ps r = gen_by_kinds ps r (filter_map trace_in ps) (filter is_trace (map kind_of ps)) (traces_many ps)

pub fits_just_gens : (words : List Text) → option_map_or (λ (ks : List PartKind). fits_gen ks) (kinds_of words) false ≡ is_some (option_and_then gen_asked (parts_of words))
fits_just_gens words = rw kinds_of-parts (go (parts_of words) refl)
  where
    go : (parts : Option (List Part)) → parts_of words ≡ parts
        → option_map_or (λ (ks : List PartKind). fits_gen ks) (option_map (map kind_of) parts) false ≡ is_some (option_and_then gen_asked parts)
    go None e = refl
    go (Some ps) e = fits_gen-kinds ps (parts_right words ps e)
