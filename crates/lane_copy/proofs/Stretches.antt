-- A stretch of a list that is put in the place of what was there, and what a masked copy makes of it.
use Rattle.std.proofs.Common.{◌≡◌, ℕ, ◌+◌, ◌-◌, ◌*◌, ◌/◌, ◌%◌, ◌<◌, ◌≤◌, List, length, take, drop, get_or, ap, refl, ◌∙◌, arith}
use Rattle.std.proofs.Math.Nat.{div-add-mod, mod-eq_of_lt, mul-add-mod_self_left}
use Rattle.std.proofs.lemmas.Bool.{ne_eqb}
use Rattle.std.proofs.lemmas.List.{get_or_append_left, get_or-append_right, get_or-drop, get_or-take, length-take-le}
use borrow.Rule.Slice.PartMut.{put_mid}
use Rattle.lane_copy.specs.Lanes.{chosen, merged_byte}

pub get_or-put_mid_below : (i k : ℕ) (xs ys : List ℕ) (j : ℕ) → i ≤ length xs → j < i → get_or (put_mid i k xs ys) j 0 ≡ get_or xs j 0
get_or-put_mid_below i k xs ys j inside below =
    get_or_append_left (take i xs) _ 0 j (omega (arith, below, length-take-le i xs inside)) ∙ get_or-take i xs j 0 below

pub get_or-put_mid_at : (i k : ℕ) (xs ys : List ℕ) (j : ℕ) → i ≤ length xs → i ≤ j → j < i + length ys → get_or (put_mid i k xs ys) j 0 ≡ get_or ys (j - i) 0
get_or-put_mid_at i k xs ys j inside from below =
    get_or-append_right (take i xs) _ i j 0 (length-take-le i xs inside) from ∙ get_or_append_left ys _ 0 (j - i) (omega (arith, from, below))

pub get_or-put_mid_above : (i k : ℕ) (xs ys : List ℕ) (j : ℕ) → i + k ≤ length xs → length ys ≡ k → i + k ≤ j → get_or (put_mid i k xs ys) j 0 ≡ get_or xs j 0
get_or-put_mid_above i k xs ys j inside same above =
    get_or-append_right (take i xs) _ i j 0 (length-take-le i xs (omega (arith, inside))) (omega (arith, above))
    ∙ get_or-append_right ys _ k (j - i) 0 same (omega (arith, above))
    ∙ get_or-drop k (drop i xs) (j - i - k) 0
    ∙ get_or-drop i xs (k + (j - i - k)) 0
    ∙ ap (λ (n : ℕ). get_or xs n 0) (let e : i + (k + (j - i - k)) ≡ j = omega (arith, above) in e)

-- the byte of a stretch that starts where the first enable governs
merged_byte-stretch : (dst src enables : List ℕ) (at k : ℕ) → k < length enables → at % length enables ≡ k
    → chosen (get_or enables k 0) (get_or src at 0) (get_or dst at 0) ≡ merged_byte dst src enables at
merged_byte-stretch dst src enables at k within place =
    let some = ne_eqb (length enables) 0 (λ none. absurd (omega (arith, none, within))) in
    rw (some, place) refl

governed : (m done k : ℕ) → k < m → done % m ≡ 0 → (done + k) % m ≡ k
governed m done k within first =
    let whole : done ≡ m * (done / m) = omega (arith, div-add-mod done m, first) in
    ap (λ (n : ℕ). (n + k) % m) whole ∙ mul-add-mod_self_left m (done / m) k ∙ mod-eq_of_lt within

pub stretch_byte : (dst now src enables ys : List ℕ) (done n count k : ℕ) → k < n → k < count → k < length enables → done % length enables ≡ 0
    → get_or now (done + k) 0 ≡ get_or dst (done + k) 0
    → get_or ys k 0 ≡ chosen (get_or (take count enables) k 0) (get_or (take n (drop done src)) k 0) (get_or (take n (drop done now)) k 0)
    → get_or ys k 0 ≡ merged_byte dst src enables (done + k)
stretch_byte dst now src enables ys done n count k in_stretch counted within first old is =
    let enable = get_or-take count enables k 0 counted in
    let byte = get_or-take n (drop done src) k 0 in_stretch ∙ get_or-drop done src k 0 in
    let kept = get_or-take n (drop done now) k 0 in_stretch ∙ get_or-drop done now k 0 ∙ old in
    is ∙ rw (enable, byte, kept) (merged_byte-stretch dst src enables (done + k) k within (governed (length enables) done k within first))
