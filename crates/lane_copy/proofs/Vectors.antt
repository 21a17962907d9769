-- What operations on vectors of 32 bytes leave.
use Rattle.std.proofs.Common.{◌≡◌, ℕ, ◌+◌, ◌-◌, ◌≤◌, inl, inr, drop, ◌%◌, ◌^◌, ◌<◌, List, [], ◌∷◌, Bool, true, false, cond, eqb, not, length, get_or, map, replicate, refl, sym, ap, subst, take, All, suc, ◌∙◌, arith, w8}
use Rattle.std.specs.Simd.Lanes.{chunk, mask_l, put_chunk, sel_l, top, zip2}
use Rattle.std.proofs.lemmas.Simd.{bitmask_splat, get_or-chunk, get_or-replicate, get_or-sel_l, get_or-zip2, length-chunk, length-replicate, length-sel_l, length-zip2, none_from_empty_mask, put_chunk_whole, tops_compared}
use Rattle.std.proofs.lemmas.Bool.{cases_lt, eqb-true}
use Rattle.std.proofs.lemmas.List.{get_or-drop, get_or_default, get_or-take, length-drop, length-take-le}
use Rattle.lane_copy.specs.Lanes.{chosen}

lane : (xs : List ℕ) (k : ℕ) → k < 32 → get_or (chunk 0 32 xs) k 0 ≡ get_or xs k 0
lane xs k within = get_or-chunk 0 32 xs k 0 within ∙ ap (λ (n : ℕ). get_or xs n 0) (let e : 0 + k ≡ k = omega arith in e)

-- a choice between two lists by the comparison of a third with a value, put over the second
pub chosen_lane : (dst src enables : List ℕ) (k : ℕ) → length dst ≡ 32 → length src ≡ 32 → length enables ≡ 32 → k < 32
    → get_or (put_chunk 0 dst (sel_l (map (top 7) (zip2 (λ a b. cond (eqb a b) 255 0) (chunk 0 32 enables) (replicate 32 255))) (chunk 0 32 src) (chunk 0 32 dst))) k 0
    ≡ chosen (get_or enables k 0) (get_or src k 0) (get_or dst k 0)
chosen_lane dst src enables k d s e within =
    let es = length-chunk 0 32 enables (omega (arith, e)) in
    let ss = length-chunk 0 32 src (omega (arith, s)) in
    let ds = length-chunk 0 32 dst (omega (arith, d)) in
    let tests = zip2 eqb (chunk 0 32 enables) (replicate 32 255) in
    let long : length tests ≡ 32 = length-zip2 eqb (chunk 0 32 enables) (replicate 32 255) (es ∙ sym (length-replicate {A = ℕ} 32 255)) ∙ es in
    let test : get_or tests k false ≡ eqb (get_or enables k 0) 255 =
    get_or-zip2 eqb (chunk 0 32 enables) (replicate 32 255) k 0 0 false (omega (arith, es, within)) (omega (arith, length-replicate {A = ℕ} 32 255, within))
    ∙ ap (λ (b : ℕ). eqb (get_or (chunk 0 32 enables) k 0) b) (get_or-replicate 32 k 255 0 within)
    ∙ ap (λ (a : ℕ). eqb a 255) (lane enables k within) in
    let whole = put_chunk_whole dst (sel_l tests (chunk 0 32 src) (chunk 0 32 dst)) (d ∙ sym (length-sel_l tests _ _ (long ∙ sym ss) (long ∙ sym ds) ∙ long)) in
    subst (λ (ms : List Bool). get_or (put_chunk 0 dst (sel_l ms (chunk 0 32 src) (chunk 0 32 dst))) k 0 ≡ chosen (get_or enables k 0) (get_or src k 0) (get_or dst k 0))
    (sym (tops_compared w8 eqb (chunk 0 32 enables) (replicate 32 255)))
    (ap (λ (ys : List ℕ). get_or ys k 0) whole
    ∙ get_or-sel_l tests (chunk 0 32 src) (chunk 0 32 dst) k 0 (omega (arith, long, within)) (omega (arith, ss, within)) (omega (arith, ds, within))
    ∙ (λ i. cond (test i) (lane src k within i) (lane dst k within i)))

-- no lane passes, so no bit of the mask is set
mask_of_none : (p : ℕ → Bool) (xs : List ℕ) → ((k : ℕ) → k < length xs → p (get_or xs k 0) ≡ false) → mask_l (map p xs) ≡ 0
mask_of_none p [] none = refl
mask_of_none p (x ∷ xs) none =
    rw (none 0 (omega arith)) (let rest = mask_of_none p xs (λ k within. none (suc k) (omega arith)) in omega (arith, rest))

abbrev pub is_some : ℕ → Bool
is_some x = not (eqb x 0)

not_false : (b : Bool) → not b ≡ false → b ≡ true
not_false true e = refl
not_false false e = sym e

only_zero : (x : ℕ) → is_some x ≡ false → x ≡ 0
only_zero x e = eqb-true x 0 (not_false (eqb x 0) e)

zero_fails : (x : ℕ) → x ≡ 0 → is_some x ≡ false
zero_fails x e = rw e refl

-- the mask of the bytes that aren't 0 is 0 just where all are
pub zero_mask : (line : List ℕ) → length line ≡ 32 → (mask_l (map is_some (take 32 line)) ≡ 0 → All (λ (byte : ℕ). byte ≡ 0) line) × (All (λ (byte : ℕ). byte ≡ 0) line → mask_l (map is_some (take 32 line)) ≡ 0)
zero_mask line long = (
  λ empty k d within. only_zero _ (none_from_empty_mask is_some line 0 32 d (omega arith) empty k (omega arith) (omega arith)),
  λ zeros. mask_of_none is_some (take 32 line) (λ k within.
      let below : k < 32 = omega (arith, length-take-le 32 line (omega (arith, long)), within) in
      ap is_some (get_or-take 32 line k 0 below) ∙ zero_fails _ (zeros k 0 (omega (arith, long, below)))),
)

-- the mask of 32 bytes that aren't 0
pub mask_is : (line : List ℕ) → length line ≡ 32 → mask_l (map (top 7) (zip2 (λ a b. cond (not (eqb a b)) 255 0) (take 32 line) (replicate 32 0))) % 2 ^ 64 ≡ mask_l (map is_some (take 32 line))
mask_is line long = bitmask_splat w8 (λ (a b : ℕ). not (eqb a b)) (take 32 line) 32 0 (length-take-le 32 line (omega (arith, long))) (omega arith)

-- a byte of a part of a line, by its place in the line
pub in_part : (line : List ℕ) (a n k d : ℕ) → a ≤ k → k < a + n → a + n ≤ length line → get_or (take n (drop a line)) (k - a) d ≡ get_or line k d
in_part line a n k d from below room =
    get_or-take n (drop a line) (k - a) d (omega (arith, from, below))
    ∙ get_or-drop a line (k - a) d
    ∙ ap (λ (j : ℕ). get_or line j d) (let e : a + (k - a) ≡ k = omega (arith, from) in e)

length_part : (line : List ℕ) (a n : ℕ) → a + n ≤ length line → length (take n (drop a line)) ≡ n
length_part line a n room = length-take-le n (drop a line) (omega (arith, length-drop a line, room))

-- where all bytes of a part are 0, so is each byte there
pub zeros_of_part : (line : List ℕ) (a n : ℕ) → a + n ≤ length line → All (λ (byte : ℕ). byte ≡ 0) (take n (drop a line)) → (k d : ℕ) → a ≤ k → k < a + n → get_or line k d ≡ 0
zeros_of_part line a n room zeros k d from below =
    sym (in_part line a n k d from below room) ∙ zeros (k - a) d (omega (arith, from, below, length_part line a n room))

pub zeros_in_part : (line : List ℕ) (a n : ℕ) → a + n ≤ length line → All (λ (byte : ℕ). byte ≡ 0) line → All (λ (byte : ℕ). byte ≡ 0) (take n (drop a line))
zeros_in_part line a n room zeros k d within =
    let short : k < n = omega (arith, within, length_part line a n room) in
    get_or-take n (drop a line) k d short ∙ get_or-drop a line k d ∙ zeros (a + k) d (omega (arith, short, room))

-- where the bytes below a and those of the rest are 0, all are
pub zeros_joined : (line : List ℕ) (a : ℕ) → a ≤ length line → ((j : ℕ) → j < a → get_or line j 0 ≡ 0) → All (λ (byte : ℕ). byte ≡ 0) (take (length line - a) (drop a line)) → All (λ (byte : ℕ). byte ≡ 0) line
zeros_joined line a within below rest k d there = elim (cases_lt k a) [
  | inl before ↦ get_or_default line k d 0 there ∙ below k before
  | inr from ↦ zeros_of_part line a (length line - a) (omega (arith, within)) rest k d from (omega (arith, there, within))
]
