-- How often a number stands in a list, after one more and one fewer.
use Rattle.std.proofs.Common.{◌≡◌, ℕ, suc, ◌+◌, ◌<◌, ◌≤◌, ◌==◌, Bool, true, false, cond, List, [], ◌∷◌, ◌++◌, length, refl, sym, ap, ◌∙◌, ⊎_elim, arith, get_or}
use Rattle.std.specs.Prelude.{nat_lt}
use Rattle.std.specs.List.{list_any, count_by, position_or_len, remove}
use Rattle.std.proofs.lemmas.Bool.{lt-ltb, ltb-true, eqb-true, eq-eqb, cond-true}
use Rattle.std.proofs.lemmas.List.Sums.{sum_by-cons, sum_by_push, sum_by-remove, passes_at_first, count_by-le-length}
use Rattle.std.proofs.lemmas.List.Edits.{length-remove}
use Rattle.flow_model.specs.Events.{Among}
use Rattle.payload_pool.specs.Slots.{tally, without}
use Rattle.payload_pool.proofs.Found.{any_count, any_place}

pub tally_push : (m : ℕ) (xs : List ℕ) (n : ℕ) → tally m (xs ++ n ∷ []) ≡ tally m xs + cond {A = ℕ} (n == m) 1 0
tally_push m xs n = sum_by_push (λ (x : ℕ). cond {A = ℕ} (x == m) 1 0) xs n

pub tally_cons : (m n : ℕ) (xs : List ℕ) → tally m (n ∷ xs) ≡ cond {A = ℕ} (n == m) 1 0 + tally m xs
tally_cons m n xs = sum_by-cons (λ (x : ℕ). cond {A = ℕ} (x == m) 1 0) n xs

pub tally_few : (m : ℕ) (xs : List ℕ) → tally m xs ≤ length xs
tally_few m xs = count_by-le-length (λ (x : ℕ). x == m) xs

-- the place of a number that stands there
place_below : (n : ℕ) (xs : List ℕ) → 1 ≤ tally n xs → position_or_len (λ (m : ℕ). m == n) xs < length xs
place_below n xs some =
    ltb-true (position_or_len (λ (m : ℕ). m == n) xs) (length xs)
    (sym (any_place (λ (m : ℕ). m == n) xs) ∙ (any_count (λ (m : ℕ). m == n) xs ∙ lt-ltb 0 (tally n xs) (omega arith)))

pub tally_without : (m n : ℕ) (xs : List ℕ) → 1 ≤ tally n xs → tally m (without n xs) + cond {A = ℕ} (n == m) 1 0 ≡ tally m xs
tally_without m n xs some =
    let i = position_or_len (λ (x : ℕ). x == n) xs in
    let below = place_below n xs some in
    let is : get_or xs i 0 ≡ n = eqb-true (get_or xs i 0) n (passes_at_first (λ (x : ℕ). x == n) xs 0 below) in
    ap (λ (k : ℕ). tally m (without n xs) + cond {A = ℕ} (k == m) 1 0) (sym is)
    ∙ sum_by-remove (λ (x : ℕ). cond {A = ℕ} (x == m) 1 0) xs i 0 below

pub among_tally : (n : ℕ) (xs : List ℕ) → Among xs n → 1 ≤ tally n xs
among_tally n [] a = absurd a
among_tally n (x ∷ xs) a =
    let c = tally_cons n x xs in
    ⊎_elim
    (λ (here : x ≡ n). let one = cond-true {A = ℕ} (x == n) 1 0 (eq-eqb x n here) in omega arith)
    (λ (there : Among xs n). let some = among_tally n xs there in omega arith)
    a

pub length_without : (n : ℕ) (xs : List ℕ) → 1 ≤ tally n xs → length (without n xs) + 1 ≡ length xs
length_without n xs some = length-remove xs (position_or_len (λ (m : ℕ). m == n) xs) (place_below n xs some)
