-- How many gates aren't known to be closed.
use Rattle.std.proofs.Common.{◌≡◌, ℕ, zero, suc, ◌+◌, ◌<◌, ◌≤◌, Bool, true, false, refl, ap, ◌∙◌, ⊎_elim, arith}
use Rattle.std.specs.Prelude.{if◌then◌else◌}
use Rattle.std.proofs.lemmas.Bool.{cases_eq}
use Rattle.dmi_grants.specs.Made.{count_without}

less_by : (b c : Bool) → (b ≡ true → c ≡ true) → (if c then 0 else 1) ≤ (if b then 0 else 1)
less_by true true more = omega arith
less_by true false more = let e = more refl in absurd (cc (e))
less_by false true more = omega arith
less_by false false more = omega arith

-- more are closed, fewer are left
pub fewer : (s t : ℕ → Bool) (g n : ℕ) → ((k : ℕ) → s k ≡ true → t k ≡ true) → count_without t g n ≤ count_without s g n
fewer s t g zero more = omega arith
fewer s t g (suc n) more = let rest = fewer s t (g + 1) n more in let here = less_by (s g) (t g) (more g) in omega (arith, rest, here)

one_less : (b c : Bool) → b ≡ false → c ≡ true → (if c then 0 else 1) + 1 ≤ (if b then 0 else 1)
one_less b true no' yes' = omega (arith, ap {B = ℕ} (λ (x : Bool). if x then 0 else 1) no')
one_less b false no' yes' = absurd (cc (yes'))

-- one that wasn't is
pub fewer_by_one : (s t : ℕ → Bool) (g n k : ℕ) → ((k : ℕ) → s k ≡ true → t k ≡ true) → g ≤ k → k < g + n → s k ≡ false → t k ≡ true → count_without t g n + 1 ≤ count_without s g n
fewer_by_one s t g zero k more from below open_ shut = absurd (omega arith)
fewer_by_one s t g (suc n) k more from below open_ shut = ⊎_elim
    (λ (same : g ≡ k).
    let rest = fewer s t (g + 1) n more in
    let here = one_less (s g) (t g) (ap s same ∙ open_) (ap t same ∙ shut) in
    omega (arith, rest, here))
    (λ (other : g ≡ k → ⊥).
    let rest = fewer_by_one s t (g + 1) n k more (omega arith) (omega arith) open_ shut in
    let here = less_by (s g) (t g) (more g) in
    omega (arith, rest, here))
    (cases_eq g k)

no_more : (b : Bool) → b ≡ false → 1 ≤ (if b then 0 else 1)
no_more b no' = omega (arith, ap {B = ℕ} (λ (x : Bool). if x then 0 else 1) no')

-- one that isn't is counted
pub some_left : (s : ℕ → Bool) (g n k : ℕ) → g ≤ k → k < g + n → s k ≡ false → 1 ≤ count_without s g n
some_left s g zero k from below open_ = absurd (omega arith)
some_left s g (suc n) k from below open_ = ⊎_elim
    (λ (same : g ≡ k). let here = no_more (s g) (ap s same ∙ open_) in omega (arith, here))
    (λ (other : g ≡ k → ⊥). let rest = some_left s (g + 1) n k (omega arith) (omega arith) open_ in omega (arith, rest))
    (cases_eq g k)

-- no more gates are counted than there are
pub count_most : (test : ℕ → Bool) (g n : ℕ) → count_without test g n ≤ n
count_most test g zero = omega arith
count_most test g (suc n) = let rest = count_most test (g + 1) n in let here = one (test g) in omega (arith, rest, here)
  where
    one : (b : Bool) → (if b then 0 else 1) ≤ 1
    one true = omega arith
    one false = omega arith
