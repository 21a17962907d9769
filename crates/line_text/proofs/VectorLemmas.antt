-- Digits of the bytes of a vector.
use Rattle.std.proofs.Common.{◌≡◌, ℕ, zero, suc, ◌+◌, ◌*◌, ◌-◌, ◌/◌, ◌%◌, ◌<◌, ◌≤◌, List, [], ◌∷◌, ◌++◌, Bool, true, false, cond, ltb, length, get_or, map, take, drop, replicate, refl, sym, ap, ◌∙◌, arith, w8, length-append, take-add}
use Rattle.std.specs.Fmt.{digit_glyph}
use Rattle.std.specs.Simd.Lanes.{put_chunk, sel_l, top, zip2}
use Rattle.std.proofs.lemmas.Simd.{get_or-replicate, get_or-sel_l, get_or-zip2, length-put_chunk, length-replicate, length-sel_l, length-zip2, put_chunk_whole, take_more_put_chunk, tops_compared}
use Rattle.std.proofs.lemmas.List.{get_or-append_right, get_or_append_left, length-drop, length-take-le, take-append-le, take_all}
use borrow.Rule.Slice.PartMut.{put_mid}
use Rattle.std.proofs.Math.Seq.{take-append-add, take-append_seam}
use Rattle.line_text.proofs.WordLemmas.{hex-append}
use Rattle.tlm_model.specs.Text.{hex_of}

-- n pairs, from place a on
abbrev pub pairs : (ℕ → ℕ) → (ℕ → ℕ) → ℕ → ℕ → List ℕ
pairs f g a zero = []
pairs f g a (suc n) = f a ∷ g a ∷ pairs f g (a + 1) n

pairs_same : (f g h i : ℕ → ℕ) (a n : ℕ) → ((k : ℕ) → k < a + n → f k ≡ h k) → ((k : ℕ) → k < a + n → g k ≡ i k) → pairs f g a n ≡ pairs h i a n
pairs_same f g h i a zero high low = refl
pairs_same f g h i a (suc n) high low = λ j.
    high a (omega arith) j ∷ low a (omega arith) j ∷ pairs_same f g h i (a + 1) n (λ k below. high k (omega (arith, below))) (λ k below. low k (omega (arith, below))) j

pairs_next : (f g : ℕ → ℕ) (a n : ℕ) → pairs f g (a + 1) n ≡ pairs (λ k. f (k + 1)) (λ k. g (k + 1)) a n
pairs_next f g a zero = refl
pairs_next f g a (suc n) = ap (λ (rest : List ℕ). f (a + 1) ∷ g (a + 1) ∷ rest) (pairs_next f g (a + 1) n)

-- the digits of a byte of a list
abbrev high_at : List ℕ → ℕ → ℕ
high_at xs k = digit_glyph false (get_or xs k 0 / 16)

abbrev low_at : List ℕ → ℕ → ℕ
low_at xs k = digit_glyph false (get_or xs k 0 % 16)

shifted : (x : ℕ) (xs : List ℕ) (n : ℕ) → pairs (high_at (x ∷ xs)) (low_at (x ∷ xs)) 1 n ≡ pairs (high_at xs) (low_at xs) 0 n
shifted x xs n = pairs_next (high_at (x ∷ xs)) (low_at (x ∷ xs)) 0 n ∙ pairs_same _ _ (high_at xs) (low_at xs) 0 n (λ k below. tail_high k) (λ k below. tail_low k)
  where
    tail_at : (k : ℕ) → get_or (x ∷ xs) (k + 1) 0 ≡ get_or xs k 0
    tail_at k = let e : k + 1 ≡ suc k = omega arith in ap (λ (j : ℕ). get_or (x ∷ xs) j 0) e

    tail_high : (k : ℕ) → high_at (x ∷ xs) (k + 1) ≡ high_at xs k
    tail_high k = ap (λ (b : ℕ). digit_glyph false (b / 16)) (tail_at k)

    tail_low : (k : ℕ) → low_at (x ∷ xs) (k + 1) ≡ low_at xs k
    tail_low k = ap (λ (b : ℕ). digit_glyph false (b % 16)) (tail_at k)

hex_pairs : (xs : List ℕ) → hex_of xs ≡ pairs (high_at xs) (low_at xs) 0 (length xs)
hex_pairs [] = refl
hex_pairs (x ∷ xs) = ap (λ (rest : List ℕ). digit_glyph false (x / 16) ∷ digit_glyph false (x % 16) ∷ rest) (hex_pairs xs ∙ sym (shifted x xs (length xs)))

-- the digits of 16 bytes, from the lanes of two vectors in turn
pub spread : (bytes high low : List ℕ) → length bytes ≡ 16 → length high ≡ 16
    → ((k : ℕ) → k < 16 → get_or high k 0 ≡ digit_glyph false (get_or bytes k 0 / 16)) → ((k : ℕ) → k < 16 → get_or low k 0 ≡ digit_glyph false (get_or bytes k 0 % 16))
    → pairs (λ k. get_or (high ++ low) k 0) (λ k. get_or (high ++ low) (16 + k) 0) 0 16 ≡ hex_of bytes
spread bytes high low b h is_high is_low =
    pairs_same (λ k. get_or (high ++ low) k 0) (λ k. get_or (high ++ low) (16 + k) 0) (high_at bytes) (low_at bytes) 0 16
    (λ k below. get_or_append_left high low 0 k (omega (arith, below, h)) ∙ is_high k (omega (arith, below)))
    (λ k below. get_or-append_right high low 16 (16 + k) 0 h (omega arith) ∙ ap (λ (j : ℕ). get_or low j 0) (let e : 16 + k - 16 ≡ k = omega arith in e) ∙ is_low k (omega (arith, below)))
    ∙ ap (λ (n : ℕ). pairs (high_at bytes) (low_at bytes) 0 n) (sym b)
    ∙ sym (hex_pairs bytes)

-- two vectors put over 32 bytes
pub laid : (bytes front back : List ℕ) → length bytes ≡ 32 → length front ≡ 16 → length back ≡ 16 → put_chunk 16 (put_chunk 0 (take 16 bytes) front ++ drop 16 bytes) back ≡ front ++ back
laid bytes front back b f r =
    let rest = drop 16 bytes in
    let begin : put_chunk 0 (take 16 bytes) front ≡ front = put_chunk_whole (take 16 bytes) front (length-take-le 16 bytes (omega (arith, b)) ∙ sym f) in
    let size : length (front ++ rest) ≡ 32 = omega (arith, length-append front rest, length-drop 16 bytes, b, f) in
    let first : take 16 (front ++ rest) ≡ front = ap (λ (n : ℕ). take n (front ++ rest)) (sym f) ∙ take-append_seam front rest in
    ap (λ (xs : List ℕ). put_chunk 16 (xs ++ rest) back) begin
    ∙ sym (take_all 32 (put_chunk 16 (front ++ rest) back) (omega (arith, length-put_chunk 16 (front ++ rest) back, size)))
    ∙ take_more_put_chunk 16 (front ++ rest) back 32 (omega (arith, r)) (omega (arith, size))
    ∙ ap (λ (xs : List ℕ). xs ++ back) first

length-hex : (bytes : List ℕ) → length (hex_of bytes) ≡ 2 * length bytes
length-hex [] = refl
length-hex (x ∷ xs) = omega (arith, length-hex xs)

-- the digits of 8 bytes are the first of those of a vector that begins with them
pub half_digits : (bytes rest front back : List ℕ) → length bytes ≡ 8 → length front ≡ 16 → front ++ back ≡ hex_of (bytes ++ rest) → front ≡ hex_of bytes
half_digits bytes rest front back b f e =
    let size : length (hex_of bytes) ≡ 16 = omega (arith, length-hex bytes, b) in
    sym (take-append_seam front back)
    ∙ ap (λ (n : ℕ). take n (front ++ back)) f
    ∙ ap (take 16) (e ∙ hex-append bytes rest)
    ∙ ap (λ (n : ℕ). take n (hex_of bytes ++ hex_of rest)) (sym size)
    ∙ take-append_seam (hex_of bytes) (hex_of rest)

glyph_by : (x : ℕ) (b : Bool) → ltb x 10 ≡ b → x < 16 → ((x + 48) % 256 + cond b 0 39) % 256 ≡ digit_glyph false x
glyph_by x true is small = rw is (let e : ((x + 48) % 256 + 0) % 256 ≡ 48 + x = omega (arith, small) in e)
glyph_by x false is small = rw is (let e : ((x + 48) % 256 + 39) % 256 ≡ 87 + x = omega (arith, small) in e)

-- how far a glyph of each lane stands behind the digit's own
abbrev pub further : List ℕ → List ℕ
further digits = sel_l (map (top 7) (zip2 (λ a b. cond (ltb a b) 255 0) digits (replicate 16 10))) (replicate 16 0) (replicate 16 39)

-- a glyph from a digit, and how far the letters are behind it
pub glyph_lane : (digits : List ℕ) (k : ℕ) → length digits ≡ 16 → get_or digits k 0 < 16 → k < 16
    → ((get_or digits k 0 + 48) % 256 + get_or (further digits) k 0) % 256 ≡ digit_glyph false (get_or digits k 0)
glyph_lane digits k long small within =
    let tests = zip2 ltb digits (replicate 16 10) in
    let tens : length (replicate {A = ℕ} 16 10) ≡ 16 = length-replicate {A = ℕ} 16 10 in
    let tested : length tests ≡ 16 = length-zip2 ltb digits (replicate 16 10) (long ∙ sym tens) ∙ long in
    let test : get_or tests k false ≡ ltb (get_or digits k 0) 10 =
    get_or-zip2 ltb digits (replicate 16 10) k 0 0 false (omega (arith, long, within)) (omega (arith, tens, within))
    ∙ ap (λ (b : ℕ). ltb (get_or digits k 0) b) (get_or-replicate {A = ℕ} 16 k 10 0 within) in
    let from : get_or (further digits) k 0 ≡ cond (ltb (get_or digits k 0) 10) 0 39 =
    ap (λ (ms : List Bool). get_or (sel_l ms (replicate 16 0) (replicate 16 39)) k 0) (tops_compared w8 ltb digits (replicate 16 10))
    ∙ get_or-sel_l tests (replicate 16 0) (replicate 16 39) k 0 (omega (arith, tested, within)) (omega (arith, length-replicate {A = ℕ} 16 0, within)) (omega (arith, length-replicate {A = ℕ} 16 39, within))
    ∙ (λ i. cond (test i) (get_or-replicate {A = ℕ} 16 k 0 0 within i) (get_or-replicate {A = ℕ} 16 k 39 0 within i)) in
    ap (λ (n : ℕ). ((get_or digits k 0 + 48) % 256 + n) % 256) from ∙ glyph_by (get_or digits k 0) (ltb (get_or digits k 0) 10) refl small

-- a lane of an operation with one value in all lanes
pub lane_with : (f : ℕ → ℕ → ℕ) (xs : List ℕ) (y k : ℕ) → length xs ≡ 16 → k < 16 → get_or (zip2 f xs (replicate 16 y)) k 0 ≡ f (get_or xs k 0) y
lane_with f xs y k long within =
    get_or-zip2 f xs (replicate 16 y) k 0 0 0 (omega (arith, long, within)) (omega (arith, length-replicate {A = ℕ} 16 y, within))
    ∙ ap (f (get_or xs k 0)) (get_or-replicate {A = ℕ} 16 k y 0 within)

-- so many lanes are chosen
pub chosen_long : (digits : List ℕ) → length digits ≡ 16 → length (further digits) ≡ 16
chosen_long digits long =
    let tested : length (zip2 ltb digits (replicate 16 10)) ≡ 16 = length-zip2 ltb digits (replicate 16 10) (long ∙ sym (length-replicate {A = ℕ} 16 10)) ∙ long in
    let chosen = λ (ms : List Bool). length {A = ℕ} (sel_l ms (replicate 16 0) (replicate 16 39)) in
    ap chosen (tops_compared w8 ltb digits (replicate 16 10))
    ∙ length-sel_l _ (replicate 16 0) (replicate 16 39) (tested ∙ sym (length-replicate {A = ℕ} 16 0)) (tested ∙ sym (length-replicate {A = ℕ} 16 39)) ∙ tested

-- so many lanes are left
pub with_long : (f : ℕ → ℕ → ℕ) (xs : List ℕ) (y : ℕ) → length xs ≡ 16 → length (zip2 f xs (replicate 16 y)) ≡ 16
with_long f xs y long = length-zip2 f xs (replicate 16 y) (long ∙ sym (length-replicate {A = ℕ} 16 y)) ∙ long

hex_joined : (bytes : List ℕ) (i n : ℕ) → hex_of (take i bytes) ++ hex_of (take n (drop i bytes)) ≡ hex_of (take (i + n) bytes)
hex_joined bytes i n = sym (hex-append (take i bytes) (take n (drop i bytes))) ∙ ap hex_of (sym (take-add i n bytes))

-- the digits of n bytes from place i on, put behind those of the bytes before it
pub hex_put : (bytes digits new : List ℕ) (i n k : ℕ) → 2 * (i + n) ≤ length digits → 2 * n ≤ length new → take (2 * i) digits ≡ hex_of (take i bytes)
    → take (2 * n) new ≡ hex_of (take n (drop i bytes)) → take (2 * (i + n)) (put_mid (2 * i) k digits new) ≡ hex_of (take (i + n) bytes)
hex_put bytes digits new i n k room long before more =
    let front = take (2 * i) digits in
    let begins : length front ≡ 2 * i = length-take-le (2 * i) digits (omega (arith, room)) in
    let count : 2 * (i + n) ≡ length front + 2 * n = omega (arith, begins) in
    ap (λ (m : ℕ). take m (put_mid (2 * i) k digits new)) count
    ∙ take-append-add front (new ++ _) (2 * n)
    ∙ ap (λ (xs : List ℕ). front ++ xs) (take-append-le (2 * n) new _ long)
    ∙ (λ j. before j ++ more j)
    ∙ hex_joined bytes i n
