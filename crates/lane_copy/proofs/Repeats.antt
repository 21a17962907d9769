-- Enables that repeat.
use Rattle.std.proofs.Common.{◌≡◌, ℕ, ◌+◌, ◌-◌, ◌*◌, ◌/◌, ◌%◌, ◌<◌, List, true, false, cond, eqb, length, get_or, map, ap, sym, ◌∙◌, arith}
use Rattle.std.proofs.Math.Nat.{div-add-mod, mod-lt, mul-add-mod_self_left, mul-mod_right, mul_assoc}
use Rattle.std.proofs.lemmas.Bool.{ne_eqb}
use Rattle.std.proofs.lemmas.List.FromFn.{get_or-map-range_with_len, length-map-range_with_len}
use Rattle.std.specs.List.{range_with_len}
use Rattle.tlm_types.specs.Enables.{is_lane_enabled}
use Rattle.lane_copy.specs.Lanes.{expanded, merged}

-- k steps on from a multiple of m
pub governed : (m done k : ℕ) → done % m ≡ 0 → (done + k) % m ≡ k % m
governed m done k first =
    let whole : done ≡ m * (done / m) = omega (arith, div-add-mod done m, first) in
    ap (λ (n : ℕ). (n + k) % m) whole ∙ mul-add-mod_self_left m (done / m) k

-- of n bytes so many that the enables stand there whole
pub whole_times : (n m : ℕ) → (n - n % m) % m ≡ 0
whole_times n m =
    let whole : n - n % m ≡ m * (n / m) = omega (arith, div-add-mod n m) in
    ap (λ (j : ℕ). j % m) whole ∙ mul-mod_right m (n / m)

-- a place among whole repetitions is governed by the same enable
within_whole : (m n k : ℕ) → n % m ≡ 0 → (k % n) % m ≡ k % m
within_whole m n k whole =
    let times : n ≡ m * (n / m) = omega (arith, div-add-mod n m, whole) in
    let first : (n * (k / n)) % m ≡ 0 =
    ap (λ (j : ℕ). (j * (k / n)) % m) times ∙ ap (λ (j : ℕ). j % m) (mul_assoc m (n / m) (k / n)) ∙ mul-mod_right m ((n / m) * (k / n)) in
    sym (governed m (n * (k / n)) (k % n) first) ∙ ap (λ (j : ℕ). j % m) (div-add-mod k n)

same_lanes : (n : ℕ) (enables : List ℕ) → 0 < length enables → 0 < n → n % length enables ≡ 0 → (k : ℕ) → is_lane_enabled (expanded n enables) k ≡ is_lane_enabled enables k
same_lanes n enables some there whole k =
    let enable = λ (j : ℕ). get_or enables (j % length enables) 0 in
    let long : length (expanded n enables) ≡ n = length-map-range_with_len enable 0 n in
    let below : k % n < n = mod-lt k there in
    let read : get_or (expanded n enables) (k % length (expanded n enables)) 0 ≡ get_or enables (k % length enables) 0 =
    ap (λ (j : ℕ). get_or (expanded n enables) (k % j) 0) long
    ∙ get_or-map-range_with_len enable 0 n (k % n) (k % n) 0 below (omega arith)
    ∙ ap (λ (j : ℕ). get_or enables j 0) (within_whole (length enables) n k whole) in
    let written : eqb (length (expanded n enables)) 0 ≡ false = ne_eqb _ 0 (λ none. absurd (omega (arith, none, long, there))) in
    let given : eqb (length enables) 0 ≡ false = ne_eqb _ 0 (λ none. absurd (omega (arith, none, some))) in
    (λ i. cond (written i) true (eqb (read i) 255)) ∙ (λ i. cond (sym given i) true (eqb (get_or enables (k % length enables) 0) 255))

-- enables that are written out whole several times copy as they do
pub merged_by_written : (n : ℕ) (dst src enables : List ℕ) → 0 < length enables → 0 < n → n % length enables ≡ 0 → merged dst src (expanded n enables) ≡ merged dst src enables
merged_by_written n dst src enables some there whole i =
    map (λ (k : ℕ). cond (same_lanes n enables some there whole k i) (get_or src k 0) (get_or dst k 0)) (range_with_len 0 (length dst))
