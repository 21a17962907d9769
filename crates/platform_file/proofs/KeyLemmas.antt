-- What is known of a key whose value was read.
use Rattle.std.proofs.Common.{◌≡◌, ℕ, ◌≤◌, Bool, true, false, ◌&&◌, List, [], ◌∷◌, length, Option, Some, None, Result, Ok, Err, ap, subst, arith, leb}
use Rattle.std.specs.Prelude.{pos, negsuc, IsTrue, if◌then◌else◌}
use Rattle.std.proofs.lemmas.Bool.{and_parts, leb-true}
use Rattle.std.specs.Str.{bytes_eq}
use Rattle.toml.specs.Data.{Data, integer, string, array, Members}
use Rattle.platform_model.specs.declared.fault.PlatformCode.{PlatformCode}
use Rattle.platform_model.specs.declared.fault.PlatformCode.TheVariants.{BadName, OutOfRange, UnknownWord, WrongType}
use Rattle.platform_model.specs.declared.place.Place.{Place}
use Rattle.platform_model.specs.Name.{is_name}
use Rattle.platform_model.proofs.ReadLemmas.{no_ok, ok_same, if_ok}
use Rattle.platform_file.specs.Kinds.{number, name, tables, all_tables, limited_tables, word, word_in}
use Rattle.platform_file.specs.Keys.{placed_at, required_value, optional_value}

placed_ok : {A : Type 0} (at : Place) (key : List ℕ) (r : Result A PlatformCode) (x : A) → placed_at at key r ≡ Ok x → r ≡ Ok x
placed_ok at key (Ok y) x h = ap Ok (ok_same y x h)
placed_ok {A} at key (Err code) x h = absurd (no_ok {A = A} _ x h)

-- the value of a required key is of its kind
pub required_ok : {A : Type 0} (kind : Data → Result A PlatformCode) (at : Place) (key : List ℕ) (o : Option Data) (x : A) → required_value kind at key o ≡ Ok x → (d : Data) × (kind d ≡ Ok x)
required_ok {A} kind at key None x h = absurd (no_ok {A = A} _ x h)
required_ok kind at key (Some d) x h = (d, placed_ok at key (kind d) x h)

between : (least most k n : ℕ) → (if leb least k && leb k most then Ok k else Err OutOfRange) ≡ Ok n → (least ≤ n) × (n ≤ most)
between least most k n h =
    let p = if_ok (leb least k && leb k most) k OutOfRange n h in
    let q = and_parts (leb least k) (leb k most) p.0 in
    let low : least ≤ k = leb-true least k q.0 in
    let high : k ≤ most = leb-true k most q.1 in
    (subst (λ (m : ℕ). least ≤ m) p.1 low, subst (λ (m : ℕ). m ≤ most) p.1 high)

number_between : (least most : ℕ) (d : Data) (n : ℕ) → number least most d ≡ Ok n → (least ≤ n) × (n ≤ most)
number_between least most (integer (pos k)) n h = between least most k n h
number_between least most (integer (negsuc k)) n h = absurd (no_ok OutOfRange n h)
number_between least most _ n h = absurd (no_ok WrongType n h)

pub required_number : (least most : ℕ) (at : Place) (key : List ℕ) (o : Option Data) (n : ℕ) → required_value (number least most) at key o ≡ Ok n → (least ≤ n) × (n ≤ most)
required_number least most at key o n h =
    let p = required_ok (number least most) at key o n h in
    number_between least most p.0 n p.1

pub optional_number : (least most default : ℕ) (at : Place) (key : List ℕ) (o : Option Data) (n : ℕ) → least ≤ default → default ≤ most → optional_value (number least most) default at key o ≡ Ok n → (least ≤ n) × (n ≤ most)
optional_number least most default at key None n low high h =
    let same : default ≡ n = ok_same default n h in
    (subst (λ (m : ℕ). least ≤ m) same low, subst (λ (m : ℕ). m ≤ most) same high)
optional_number least most default at key (Some d) n low high h = number_between least most d n (placed_ok at key (number least most d) n h)

name_is : (d : Data) (n : List ℕ) → name d ≡ Ok n → IsTrue (is_name n)
name_is (string s) n h =
    let p = if_ok (is_name s) s BadName n h in
    subst (λ (m : List ℕ). IsTrue (is_name m)) p.1 p.0
name_is _ n h = absurd (no_ok WrongType n h)

pub required_name : (at : Place) (key : List ℕ) (o : Option Data) (n : List ℕ) → required_value name at key o ≡ Ok n → IsTrue (is_name n)
required_name at key o n h =
    let p = required_ok name at key o n h in
    name_is p.0 n p.1

-- what holds of all that the words of a list stand for
abbrev pub EachStandsFor : {A : Type 0} → (A → Type 0) → List (List ℕ × A) → Type 0
EachStandsFor P [] = Unit {0}
EachStandsFor P (w ∷ ws) = P w.1 × EachStandsFor P ws

word_by : {A : Type 0} (P : A → Type 0) (same : Bool) (y : A) (others : Result A PlatformCode) (x : A) → P y → (others ≡ Ok x → P x) → (if same then Ok y else others) ≡ Ok x → P x
word_by P true y others x one rest h = subst P (ok_same y x h) one
word_by P false y others x one rest h = rest h

word_in_stands : {A : Type 0} (P : A → Type 0) (words : List (List ℕ × A)) (s : List ℕ) (x : A) → EachStandsFor P words → word_in words s ≡ Ok x → P x
word_in_stands P [] s x each h = absurd (no_ok UnknownWord x h)
word_in_stands P (w ∷ ws) s x each h = word_by P (bytes_eq s w.0) w.1 (word_in ws s) x each.0 (λ rest. word_in_stands P ws s x each.1 rest) h

word_stands : {A : Type 0} (P : A → Type 0) (words : List (List ℕ × A)) (d : Data) (x : A) → EachStandsFor P words → word words d ≡ Ok x → P x
word_stands P words (string s) x each h = word_in_stands P words s x each h
word_stands P words _ x each h = absurd (no_ok WrongType x h)

pub optional_word : {A : Type 0} (P : A → Type 0) (words : List (List ℕ × A)) (default : A) (at : Place) (key : List ℕ) (o : Option Data) (x : A) → EachStandsFor P words → P default → optional_value (word words) default at key o ≡ Ok x → P x
optional_word P words default at key None x each one h = subst P (ok_same default x h) one
optional_word P words default at key (Some d) x each one h = word_stands P words d x each (placed_ok at key (word words d) x h)

limited_between : (least most : ℕ) (r : Result (List Members) PlatformCode) (ts : List Members) → limited_tables least most r ≡ Ok ts → (least ≤ length ts) × (length ts ≤ most)
limited_between least most (Ok us) ts h =
    let p = if_ok (leb least (length us) && leb (length us) most) us OutOfRange ts h in
    let q = and_parts (leb least (length us)) (leb (length us) most) p.0 in
    let low : least ≤ length us = leb-true least (length us) q.0 in
    let high : length us ≤ most = leb-true (length us) most q.1 in
    let same : length us ≡ length ts = ap length p.1 in
    (subst (λ (m : ℕ). least ≤ m) same low, subst (λ (m : ℕ). m ≤ most) same high)
limited_between least most (Err e) ts h = absurd (no_ok e ts h)

tables_between : (least most : ℕ) (d : Data) (ts : List Members) → tables least most d ≡ Ok ts → (least ≤ length ts) × (length ts ≤ most)
tables_between least most (array ds) ts h = limited_between least most (all_tables ds) ts h
tables_between least most _ ts h = absurd (no_ok WrongType ts h)

pub required_tables : (least most : ℕ) (at : Place) (key : List ℕ) (o : Option Data) (ts : List Members) → required_value (tables least most) at key o ≡ Ok ts → (least ≤ length ts) × (length ts ≤ most)
required_tables least most at key o ts h =
    let p = required_ok (tables least most) at key o ts h in
    tables_between least most p.0 ts p.1

pub optional_tables : (most : ℕ) (at : Place) (key : List ℕ) (o : Option Data) (ts : List Members) → optional_value (tables 0 most) [] at key o ≡ Ok ts → length ts ≤ most
optional_tables most at key None ts h =
    let none : List Members = [] in
    let same : length none ≡ length ts = ap length (ok_same none ts h) in
    omega arith
optional_tables most at key (Some d) ts h = (tables_between 0 most d ts (placed_ok at key (tables 0 most d) ts h)).1
