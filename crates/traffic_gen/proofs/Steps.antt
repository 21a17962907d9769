-- Lines and scripts one after another.
use Rattle.std.proofs.Common.{◌≡◌, ℕ, ◌+◌, ◌-◌, ◌%◌, ◌<◌, suc, [], ◌∷◌, ◌++◌, ap, refl, ◌∙◌, arith}
use Rattle.traffic_gen.specs.Numbers.{drawn, next}
use Rattle.traffic_gen.specs.Texts.{line, lines, scripts}

pub lines_none : (k x : ℕ) → lines k 0 x ≡ []
unfolding lines
lines_none k x = refl

pub drawn_none : (x : ℕ) → drawn 0 x ≡ x
unfolding drawn
drawn_none x = refl

pub scripts_none : (x : ℕ) → scripts 0 x ≡ []
unfolding scripts
scripts_none x = refl

lines_suc : (k n x : ℕ) → lines k (suc n) x ≡ line (k % 8) (next x) ++ lines (k + 1) n (next x)
unfolding lines
lines_suc k n x = refl

drawn_suc : (n x : ℕ) → drawn (suc n) x ≡ drawn n (next x)
unfolding drawn
drawn_suc n x = refl

scripts_suc : (m x : ℕ) → scripts (suc m) x ≡ lines 0 8000 x ∷ scripts m (drawn 8000 x)
unfolding scripts
scripts_suc m x = refl

-- of n lines the one at k, and those after it
pub lines_more : (n k x : ℕ) → k < n → lines k (n - k) x ≡ line (k % 8) (next x) ++ lines (k + 1) (n - (k + 1)) (next x)
lines_more n k x below =
    let more : n - k ≡ suc (n - (k + 1)) = omega (arith, below) in
    ap (λ (m : ℕ). lines k m x) more ∙ lines_suc k (n - (k + 1)) x

pub drawn_more : (n k x : ℕ) → k < n → drawn (n - k) x ≡ drawn (n - (k + 1)) (next x)
drawn_more n k x below =
    let more : n - k ≡ suc (n - (k + 1)) = omega (arith, below) in
    ap (λ (m : ℕ). drawn m x) more ∙ drawn_suc (n - (k + 1)) x

pub scripts_more : (n k x : ℕ) → k < n → scripts (n - k) x ≡ lines 0 8000 x ∷ scripts (n - (k + 1)) (drawn 8000 x)
scripts_more n k x below =
    let more : n - k ≡ suc (n - (k + 1)) = omega (arith, below) in
    ap (λ (m : ℕ). scripts m x) more ∙ scripts_suc (n - (k + 1)) x
