-- What a payload keeps while its data is replaced, and where its bytes lie in a memory.
use Rattle.std.proofs.Common.{◌≡◌, ℕ, ◌+◌, ◌-◌, ◌<◌, ◌≤◌, Bool, true, false, List, length, take, drop, refl, sym, ap, ◌∙◌, subst, ⊎_elim, arith}
use Rattle.std.specs.Prelude.{◌↔◌, vec_capacity}
use Rattle.std.specs.Vec.{with_items}
use Rattle.std.proofs.lemmas.Bool.{cases_lt, iff_false}
use Rattle.std.proofs.lemmas.List.{with_items_is}
use Rattle.tlm_types.specs.declared.words.Command.{Command}
use Rattle.tlm_types.specs.declared.words.Command.TheVariants.{Read, Write, Ignore, FetchAdd}
use Rattle.tlm_model.specs.Store.{span_of}
use Rattle.generic_payload.specs.declared.payload.Attributes.{Attributes}
use Rattle.generic_payload.specs.Payload.{PayloadView, access_of, viewed, HasPlaces, HasWord}
use Rattle.generic_payload.proofs.Moves.{length-span, span_of-wide}

-- what holds of the attributes, whose data are these bytes
abbrev pub Holds : Attributes → List ℕ → Type 0
Holds a bytes = (a.room ≤ vec_capacity a.bytes) × (length bytes ≤ a.room) × (a.room ≤ vec_capacity a.enables) × (length a.enables.items ≤ a.room) × HasWord a.command bytes a.width

word_by : (command : Command) (xs ys : List ℕ) (width : ℕ) → length ys ≡ length xs → HasWord command xs width → HasWord command ys width
word_by Read xs ys width same word = tt
word_by Write xs ys width same word = tt
word_by Ignore xs ys width same word = tt
word_by FetchAdd xs ys width same word = (same ∙ word.0, word.1)

-- as many bytes in place of the data
pub holds_with : (a b : Attributes) (new : List ℕ) → a ≡ b → Holds b b.bytes.items → length new ≡ length a.bytes.items → Holds a (with_items a.bytes new).items
holds_with a b new is held same =
    let h : Holds a a.bytes.items = subst (λ (x : Attributes). Holds x x.bytes.items) (sym is) held in
    let kept : (with_items a.bytes new).items ≡ new = with_items_is a.bytes new (same ∙ sym a.bytes.ok.0) in
    subst (Holds a) (sym kept) (h.0, subst (λ (n : ℕ). n ≤ a.room) (sym same) h.1, h.2, h.3, word_by a.command a.bytes.items new a.width same h.4)

pub viewed_with : (p : PayloadView) (a : Attributes) (new got : List ℕ) → viewed a ≡ p → length new ≡ length a.bytes.items → new ≡ got → ◌≡◌ {A = PayloadView} (record (viewed a) { bytes = (with_items a.bytes new).items }) (record p { bytes = got })
viewed_with p a new got seen same is =
    let kept : (with_items a.bytes new).items ≡ new = with_items_is a.bytes new (same ∙ sym a.bytes.ok.0) in
    ap (λ (v : PayloadView). record v { bytes = (with_items a.bytes new).items }) seen ∙ ap (λ (b : List ℕ). record p { bytes = b }) (kept ∙ is)

-- so many places from an address on
pub count_from : (start n m : ℕ) → n ≡ m → start + n - start ≡ m
count_from start n m is = omega arith

pub not_less : (b : Bool) (n m : ℕ) → ((b ≡ true) ↔ (n < m)) → b ≡ false → m ≤ n
not_less b n m means off = ⊎_elim (λ (h : n < m). absurd (iff_false means off h)) (λ (h : m ≤ n). h) (cases_lt n m)

-- the places of a span lie in the memory
pub ends_inside : (p : PayloadView) (start n size : ℕ) → start ≡ p.address → n ≡ span_of (access_of p) → HasPlaces (access_of p) size → start + n ≤ size
ends_inside p start n size at is places = let inside = places.inside in omega arith

length_there : (p : PayloadView) (store : List ℕ) (start n : ℕ) → start ≡ p.address → n ≡ span_of (access_of p) → HasPlaces (access_of p) (length store) → length (take (start + n - start) (drop start store)) ≡ n
length_there p store start n at is places =
    ap (λ (k : ℕ). length (take k (drop start store))) (count_from start n n refl) ∙ ap (λ (k : ℕ). length (take n (drop k store))) at ∙ length-span p store n places is

pub some_there : (p : PayloadView) (store : List ℕ) (start n : ℕ) → start ≡ p.address → n ≡ span_of (access_of p) → HasPlaces (access_of p) (length store) → p.width < length p.bytes → 0 < length (take (start + n - start) (drop start store))
some_there p store start n at is places streams =
    let wide = places.wide in
    let long = length_there p store start n at is places in
    let span = span_of-wide p wide in
    omega arith

pub all_there : (p : PayloadView) (store bytes : List ℕ) (start n : ℕ) → bytes ≡ p.bytes → start ≡ p.address → n ≡ span_of (access_of p) → HasPlaces (access_of p) (length store) → length p.bytes ≤ p.width → length bytes ≡ length (take (start + n - start) (drop start store))
all_there p store bytes start n same at is places plain =
    let wide = places.wide in
    let long = length_there p store start n at is places in
    let span = span_of-wide p wide in
    let size = ap length same in
    omega arith

-- the word of a fetch_add
pub word_of : (command : Command) (bytes : List ℕ) (width : ℕ) → command ≡ FetchAdd → HasWord command bytes width → (length bytes ≡ 4) × (width ≡ 4)
word_of command bytes width is word = subst (λ (c : Command). HasWord c bytes width) is word

pub span_of-word : (p : PayloadView) → 0 < p.width → length p.bytes ≡ 4 → p.width ≡ 4 → 4 ≡ span_of (access_of p)
span_of-word p wide four width = let span = span_of-wide p wide in omega arith

pub word_there : (p : PayloadView) (store : List ℕ) (start : ℕ) → start ≡ p.address → 4 ≡ span_of (access_of p) → HasPlaces (access_of p) (length store) → length (take (start + 4 - start) (drop start store)) ≡ 4
word_there p store start at is places = length_there p store start 4 at is places

pub equal_least : (n m k : ℕ) → n ≡ k → m ≡ k → n ≤ m
equal_least n m k a b = omega arith
