-- The digits of a byte and of a number below 100, by the tables of all of them.
use Rattle.std.proofs.Common.{◌≡◌, ℕ, zero, suc, ◌+◌, ◌-◌, ◌*◌, ◌/◌, ◌%◌, ◌<◌, List, get_or, Bool, true, false, ◌&&◌, T, eqb, arith, inl, inr, eq-zero-or-pos, eqb→eq}
use lib.Ieee.Fits.{and_l, and_r}
use Rattle.std.specs.Fmt.{digit_glyph}
use Rattle.line_text.specs.declared.pieces.TheConstants.{DECIMAL_PAIRS, HEX_PAIRS}

-- the table has these two digits of each number below this one
abbrev are_pairs : List ℕ → (ℕ → ℕ) → (ℕ → ℕ) → ℕ → Bool
are_pairs table high low zero = true
are_pairs table high low (suc p) = (eqb (get_or table (p * 2) 0) (high p) && eqb (get_or table (p * 2 + 1) 0) (low p)) && are_pairs table high low p

below : (table : List ℕ) (high low : ℕ → ℕ) (n p : ℕ) → T (are_pairs table high low n) → p < n → (get_or table (p * 2) 0 ≡ high p) × (get_or table (p * 2 + 1) 0 ≡ low p)
below table high low zero p t h = absurd (omega arith)
below table high low (suc n) p t h =
    elim (eq-zero-or-pos (n - p)) [
      | inl z ↦ let e : p ≡ n = omega arith in let a = and_l _ (are_pairs table high low n) t in rw e (eqb→eq _ _ (and_l _ _ a), eqb→eq _ _ (and_r _ _ a))
      | inr g ↦ below table high low n p (and_r _ (are_pairs table high low n) t) (omega arith)
    ]

pub hex-pairs-at : (p : ℕ) → p < 256 → (get_or HEX_PAIRS (p * 2) 0 ≡ digit_glyph false (p / 16)) × (get_or HEX_PAIRS (p * 2 + 1) 0 ≡ digit_glyph false (p % 16))
hex-pairs-at p few = below HEX_PAIRS (λ n. digit_glyph false (n / 16)) (λ n. digit_glyph false (n % 16)) 256 p tt few

pub decimal-pairs-at : (p : ℕ) → p < 100 → (get_or DECIMAL_PAIRS (p * 2) 0 ≡ 48 + p / 10) × (get_or DECIMAL_PAIRS (p * 2 + 1) 0 ≡ 48 + p % 10)
decimal-pairs-at p few = below DECIMAL_PAIRS (λ n. 48 + n / 10) (λ n. 48 + n % 10) 100 p tt few
