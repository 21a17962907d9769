-- Words made digit by digit.
use Rattle.std.proofs.Common.{◌≡◌, ℕ, zero, suc, ◌+◌, ◌-◌, ◌*◌, ◌/◌, ◌%◌, ◌<◌, List, [], ◌∷◌, ◌++◌, length, get_or, set, take, drop, slice_range, Bool, true, false, cond, eqb, refl, ap, sym, ◌∙◌, arith, append_assoc, length-set, take-add, ne_eqb}
use Rattle.std.specs.Prelude.{◌==◌, codes}
use Rattle.std.specs.Fmt.{digit_glyph, digits, digits_onto}
use Rattle.std.proofs.lemmas.List.{take_more, take_more_set}
use Rattle.tlm_model.specs.Text.{data_word, hex_of}

pub hex-append : (a b : List ℕ) → hex_of (a ++ b) ≡ hex_of a ++ hex_of b
hex-append [] b = refl
hex-append (x ∷ xs) b = ap (λ (l : List ℕ). digit_glyph false (x / 16) ∷ digit_glyph false (x % 16) ∷ l) (hex-append xs b)

-- one more byte
pub hex-more : (bytes : List ℕ) (i : ℕ) → i < length bytes → hex_of (take i bytes) ++ hex_of (get_or bytes i 0 ∷ []) ≡ hex_of (take (i + 1) bytes)
hex-more bytes i h = sym (hex-append (take i bytes) (get_or bytes i 0 ∷ [])) ∙ ap hex_of (sym (take_more bytes i 0 h))

-- the digits of one more byte
pub pairs-more : (bytes digits : List ℕ) (k a b : ℕ) → k < length bytes → 2 * k + 1 < length digits → a ≡ digit_glyph false (get_or bytes k 0 / 16) → b ≡ digit_glyph false (get_or bytes k 0 % 16) →
    take (2 * k) digits ≡ hex_of (take k bytes) → take (2 * (k + 1)) (set (set digits (2 * k) a) (2 * k + 1) b) ≡ hex_of (take (k + 1) bytes)
pairs-more bytes digits k a b within room high low before =
    let once = set digits (2 * k) a in
    let next : 2 * (k + 1) ≡ 2 * k + 1 + 1 = omega arith in
    let second : take (2 * k + 1 + 1) (set once (2 * k + 1) b) ≡ take (2 * k + 1) once ++ b ∷ [] = take_more_set once (2 * k + 1) b (omega (arith, length-set digits (2 * k) a)) in
    let first : take (2 * k + 1) once ≡ take (2 * k) digits ++ a ∷ [] = take_more_set digits (2 * k) a (omega arith) in
    let both : a ∷ b ∷ [] ≡ hex_of (get_or bytes k 0 ∷ []) = ap (λ (x : ℕ). x ∷ b ∷ []) high ∙ ap (λ (y : ℕ). digit_glyph false (get_or bytes k 0 / 16) ∷ y ∷ []) low in
    ap (λ (n : ℕ). take n (set once (2 * k + 1) b)) next
    ∙ (second
    ∙ (ap (λ (l : List ℕ). l ++ b ∷ []) (first ∙ ap (λ (l : List ℕ). l ++ a ∷ []) before)
    ∙ (append_assoc (hex_of (take k bytes)) (a ∷ []) (b ∷ [])
    ∙ (ap (λ (l : List ℕ). hex_of (take k bytes) ++ l) both ∙ hex-more bytes k within))))

-- some more bytes
pub hex-next : (bytes : List ℕ) (i n : ℕ) → hex_of (take i bytes) ++ hex_of (slice_range bytes i (i + n)) ≡ hex_of (take (i + n) bytes)
hex-next bytes i n =
    let size : i + n - i ≡ n = omega arith in
    ap (λ (m : ℕ). hex_of (take i bytes) ++ hex_of (take m (drop i bytes))) size
    ∙ (sym (hex-append (take i bytes) (take n (drop i bytes))) ∙ ap hex_of (sym (take-add i n bytes)))

pub data-none : (bytes : List ℕ) → (length bytes == 0) ≡ true → codes "-" ≡ data_word bytes
data-none [] e = refl
data-none (b ∷ bs) e = let none : (length (b ∷ bs) == 0) ≡ false = ne_eqb (length (b ∷ bs)) 0 (λ z. omega (arith, z)) in cc

pub data-some : (bytes : List ℕ) → (bytes ≡ [] → ⊥) → hex_of bytes ≡ data_word bytes
data-some [] some = absurd (some refl)
data-some (b ∷ bs) some = refl

onto-either : (t : Bool) (a b c d rest : List ℕ) → a ≡ b ++ rest → c ≡ d ++ rest → cond t a c ≡ cond t b d ++ rest
onto-either true a b c d rest e f = e
onto-either false a b c d rest e f = f

pub onto-append : (k n : ℕ) (a b : List ℕ) → digits_onto k 16 false n (a ++ b) ≡ digits_onto k 16 false n a ++ b
onto-append zero n a b = refl
onto-append (suc k) n a b = onto-either (eqb (n / 16) 0) _ _ _ _ _ refl (onto-append k (n / 16) (digit_glyph false (n % 16) ∷ a) b)
