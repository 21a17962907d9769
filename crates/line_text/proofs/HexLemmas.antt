-- Hexadecimal digits, one after another.
use Rattle.std.proofs.Common.{◌≡◌, ℕ, zero, suc, ◌+◌, ◌/◌, ◌%◌, ◌^◌, ◌<◌, ◌≤◌, List, [], ◌∷◌, ◌++◌, length, false, cond, refl, ap, sym, ◌∙◌, arith, inl, inr, eq-zero-or-pos, append_assoc, length-append, eq-eqb, ne_eqb}
use Rattle.std.specs.Fmt.{digit_glyph, digits, digits_onto}
use Rattle.std.proofs.lemmas.Fmt.{hex_one_digit}
use Rattle.line_text.proofs.WordLemmas.{onto-append}

abbrev last_glyph : ℕ → ℕ
last_glyph n = digit_glyph false (n % 16)

abbrev spell : ℕ → ℕ → List ℕ → List ℕ
spell k n acc = digits_onto k 16 false n acc

spell-last : (k n : ℕ) (acc : List ℕ) → n / 16 ≡ 0 → spell (suc k) n acc ≡ last_glyph n ∷ acc
spell-last k n acc h = ap (λ t. cond t (last_glyph n ∷ acc) (spell k (n / 16) (last_glyph n ∷ acc))) (eq-eqb (n / 16) 0 h)

spell-next : (k n : ℕ) (acc : List ℕ) → 0 < n / 16 → spell (suc k) n acc ≡ spell k (n / 16) (last_glyph n ∷ acc)
spell-next k n acc h = ap (λ t. cond t (last_glyph n ∷ acc) (spell k (n / 16) (last_glyph n ∷ acc))) (ne_eqb (n / 16) 0 (λ e. omega arith))

-- the number of digits that are allowed doesn't matter once it is large enough
spell-enough : (j k n : ℕ) (acc : List ℕ) → n < 16 ^ suc j → n < 16 ^ suc k → spell (suc j) n acc ≡ spell (suc k) n acc
spell-enough zero k n acc p q = spell-last zero n acc (omega arith) ∙ sym (spell-last k n acc (omega arith))
spell-enough (suc j) zero n acc p q = spell-last (suc j) n acc (omega arith) ∙ sym (spell-last zero n acc (omega arith))
spell-enough (suc j) (suc k) n acc p q = elim (eq-zero-or-pos (n / 16)) [
  | inl z ↦ spell-last (suc j) n acc z ∙ sym (spell-last (suc k) n acc z)
  | inr g ↦ spell-next (suc j) n acc g ∙ (spell-enough j k (n / 16) (last_glyph n ∷ acc) (omega arith) (omega arith) ∙ sym (spell-next (suc k) n acc g))
]

-- the last digit of several
digits-step : (n : ℕ) → 16 ≤ n → n < 2 ^ 64 → digits 16 false n ≡ digits 16 false (n / 16) ++ (last_glyph n ∷ [])
unfolding digits
digits-step n more small =
    spell-next 63 n [] (omega arith)
    ∙ (spell-enough 62 63 (n / 16) (last_glyph n ∷ []) (omega arith) (omega arith) ∙ onto-append 64 (n / 16) [] (last_glyph n ∷ []))

pub length-one : (n : ℕ) → n < 16 → length (digits 16 false n) ≡ 1
length-one n few = ap length (hex_one_digit false n few)

pub length-step : (n : ℕ) → 16 ≤ n → n < 2 ^ 64 → length (digits 16 false n) ≡ length (digits 16 false (n / 16)) + 1
length-step n more small = ap length (digits-step n more small) ∙ length-append (digits 16 false (n / 16)) (last_glyph n ∷ [])

length-le : (k n : ℕ) → n < 16 ^ suc k → n < 2 ^ 64 → (1 ≤ length (digits 16 false n)) × (length (digits 16 false n) ≤ suc k)
length-le zero n few small = (omega (arith, length-one n (omega arith)), omega (arith, length-one n (omega arith)))
length-le (suc k) n few small = elim (eq-zero-or-pos (n / 16)) [
  | inl z ↦ (omega (arith, length-one n (omega arith)), omega (arith, length-one n (omega arith)))
  | inr g ↦
      let r = length-le k (n / 16) (omega arith) (omega arith) in
      let e = length-step n (omega arith) small in
      (omega (arith, e), omega (arith, e, r.1))
]

-- how many digits there are
pub length-within : (n : ℕ) → n < 2 ^ 64 → (1 ≤ length (digits 16 false n)) × (length (digits 16 false n) ≤ 16)
length-within n small = length-le 15 n (omega arith) small

-- the digits of a byte
abbrev pub pair : ℕ → List ℕ
pair p = digit_glyph false (p / 16) ∷ digit_glyph false (p % 16) ∷ []

pub digits-two : (n : ℕ) → 16 ≤ n → n < 256 → digits 16 false n ≡ pair n
digits-two n lo hi = rw (digits-step n lo (omega arith), hex_one_digit false (n / 16) (omega arith)) refl

pub digits-pair : (n : ℕ) → 256 ≤ n → n < 2 ^ 64 → digits 16 false n ≡ digits 16 false (n / 256) ++ pair (n % 256)
digits-pair n lo hi =
    let a : n / 16 / 16 ≡ n / 256 = omega arith in
    let b : n / 16 % 16 ≡ n % 256 / 16 = omega arith in
    let c : n % 16 ≡ n % 256 % 16 = omega arith in
    rw (digits-step n (omega arith) hi, digits-step (n / 16) (omega arith) (omega arith), append_assoc, a, b, ← c) refl

pub digits-four : (n : ℕ) → 65536 ≤ n → n < 2 ^ 64 → digits 16 false n ≡ digits 16 false (n / 65536) ++ (pair (n % 65536 / 256) ++ pair (n % 65536 % 256))
digits-four n lo hi =
    let a : n / 256 / 256 ≡ n / 65536 = omega arith in
    let b : n / 256 % 256 ≡ n % 65536 / 256 = omega arith in
    let c : n % 65536 % 256 ≡ n % 256 = omega arith in
    rw (digits-pair n (omega arith) hi, digits-pair (n / 256) (omega arith) (omega arith), append_assoc, a, b, c) refl

pub length-two : (n : ℕ) → 16 ≤ n → n < 256 → length (digits 16 false n) ≡ 2
length-two n lo hi = ap length (digits-two n lo hi)

pub length-pair : (n : ℕ) → 256 ≤ n → n < 2 ^ 64 → length (digits 16 false n) ≡ length (digits 16 false (n / 256)) + 2
length-pair n lo hi = ap length (digits-pair n lo hi) ∙ length-append (digits 16 false (n / 256)) (pair (n % 256))

pub length-four : (n : ℕ) → 65536 ≤ n → n < 2 ^ 64 → length (digits 16 false n) ≡ length (digits 16 false (n / 65536)) + 4
length-four n lo hi = ap length (digits-four n lo hi) ∙ length-append (digits 16 false (n / 65536)) (pair (n % 65536 / 256) ++ pair (n % 65536 % 256))
