-- The first word of a text.
use Rattle.std.proofs.Common.{◌≡◌, ℕ, ◌+◌, ◌<◌, List, [], ◌∷◌, length, take, drop, Bool, true, false, cond, not, nat_lt, Some, None, position, filter, refl, sym, ap, ◌∙◌, arith, length-take}
use Rattle.std.specs.Prelude.{slice_index}
use Rattle.std.specs.List.{position_or_len, before_first, slice_split, onto_first}
use Rattle.std.proofs.lemmas.Bool.Decides.{nat_tests}
use Rattle.std.proofs.lemmas.List.{take_all}
use Rattle.std.proofs.lemmas.Option.{cond_some}
use Rattle.traffic_script.specs.Words.{is_blank, words_of}
use Rattle.traffic_script.proofs.Parts.{split_first, split_none}

abbrev has_bytes : List ℕ → Bool
has_bytes word = nat_lt 0 (length word)

-- a blank before the words
pub words_of-blank : (b : ℕ) (text : List ℕ) → is_blank b ≡ true → words_of (b ∷ text) ≡ words_of text
words_of-blank b text e =
    let parts = slice_split is_blank text in
    ap (λ test. filter has_bytes (cond test ([] ∷ parts) (onto_first b parts))) e

-- a part that has bytes is kept
kept : (word : List ℕ) (parts : List (List ℕ)) → 0 < length word → filter has_bytes (word ∷ parts) ≡ word ∷ filter has_bytes parts
kept word parts h =
    let test : nat_lt 0 (length word) ≡ true = grind (arith, nat_tests) in
    ap (λ b. cond b (word ∷ filter has_bytes parts) (filter has_bytes parts)) test

-- the first blank stands behind a first byte that is none
blank_behind : (text : List ℕ) (end : ℕ) → 0 < length text → is_blank (slice_index text 0) ≡ false → position is_blank text ≡ Some end → 0 < end
blank_behind [] end h first e = absurd (omega arith)
blank_behind (b ∷ text) end h first e =
    let q = cond_some (nat_lt (position_or_len is_blank (b ∷ text)) (length (b ∷ text))) (position_or_len is_blank (b ∷ text)) end e in
    let next : position_or_len is_blank (b ∷ text) ≡ 1 + position_or_len is_blank text = ap (λ test. cond (not test) (1 + position_or_len is_blank text) 0) first in
    omega (arith, q.1)

-- a word that ends at a blank
pub words_of-first : (text : List ℕ) (end : ℕ) → 0 < length text → is_blank (slice_index text 0) ≡ false → position is_blank text ≡ Some end → words_of text ≡ take end text ∷ words_of (drop (end + 1) text)
words_of-first text end h first e =
    let parts = split_first is_blank text end e in
    let some = blank_behind text end h first e in
    ap (λ ps. filter has_bytes ps) parts.1 ∙ kept (take end text) (slice_split is_blank (drop (end + 1) text)) (omega (arith, length-take end text, parts.0))

-- a word that ends with the text
pub words_of-last : (text : List ℕ) → 0 < length text → position is_blank text ≡ None → words_of text ≡ text ∷ []
words_of-last text h e = ap (λ ps. filter has_bytes ps) (split_none is_blank text e) ∙ kept text [] h

-- what stands before the first byte that passes
pub before_first-Some : (p : ℕ → Bool) (text : List ℕ) (place : ℕ) → position p text ≡ Some place → take place text ≡ before_first p text
before_first-Some p text place e =
    let q = cond_some (nat_lt (position_or_len p text) (length text)) (position_or_len p text) place e in
    ap (λ n. take n text) (sym q.1)

pub before_first-None : (p : ℕ → Bool) (text : List ℕ) → position p text ≡ None → text ≡ before_first p text
before_first-None p text e = by_test (nat_lt (position_or_len p text) (length text)) refl e
  where
    by_test : (b : Bool) → nat_lt (position_or_len p text) (length text) ≡ b → cond b (Some (position_or_len p text)) None ≡ None → text ≡ before_first p text
    by_test true q h = cc
    by_test false q h = sym (take_all (position_or_len p text) text (grind (arith, nat_tests)))
