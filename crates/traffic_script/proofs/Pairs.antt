-- Bytes, a pair of digits at a time.
use Rattle.std.proofs.Common.{◌≡◌, ℕ, ◌+◌, ◌*◌, ◌≤◌, List, [], ◌∷◌, ◌++◌, length, get_or, drop, Bool, true, false, cond, ◌&&◌, Result, Ok, Err, refl, ap, ◌∙◌, arith}
use Rattle.std.specs.Char.{is_digit, digit_value}
use Rattle.std.specs.List.{list_all}
use Rattle.traffic_script.specs.declared.fault.ScriptCode.{ScriptCode}
use Rattle.traffic_script.specs.declared.fault.ScriptCode.TheVariants.{BadHex}
use Rattle.tlm_types.specs.Reading.{◌>>=◌}
use Rattle.traffic_script.specs.Numbers.{byte_of, bytes_of}
use Rattle.traffic_script.proofs.Fronts.{behind, behind_more}
use Rattle.traffic_script.proofs.ReadLemmas.{and-true}

-- one more pair of digits
pub pair_read : (front rest : List ℕ) (byte : ℕ) → 2 ≤ length rest → byte_of (get_or rest 0 0) (get_or rest 1 0) ≡ Ok byte → behind front (bytes_of rest) ≡ behind (front ++ byte ∷ []) (bytes_of (drop 2 rest))
pair_read front [] byte h e = absurd (omega arith)
pair_read front (a ∷ []) byte h e = absurd (omega arith)
pair_read front (a ∷ b ∷ rest) byte h e =
    ap (λ r. behind front (r >>= λ x. bytes_of rest >>= λ xs. Ok (x ∷ xs))) e ∙ behind_more front byte (bytes_of rest)

-- what all bytes pass, the first two pass, and the others
pub pair_passes : (test : ℕ → Bool) (rest : List ℕ) → 2 ≤ length rest → list_all test rest ≡ true → (test (get_or rest 0 0) ≡ true) × (test (get_or rest 1 0) ≡ true) × (list_all test (drop 2 rest) ≡ true)
pair_passes test [] h e = absurd (omega arith)
pair_passes test (a ∷ []) h e = absurd (omega arith)
pair_passes test (a ∷ b ∷ rest) h e =
    let first = and-true (test a) (test b && list_all test rest) e in
    let second = and-true (test b) (list_all test rest) first.1 in
    (first.0, second.0, second.1)

not_read : (high low all : Bool) (byte : ℕ) (more : Result (List ℕ) ScriptCode) → high && (low && all) ≡ false → (all ≡ false → more ≡ Err BadHex) → (cond (high && low) (Ok byte) (Err BadHex) >>= λ x. more >>= λ xs. Ok (x ∷ xs)) ≡ Err BadHex
not_read true true all byte more e later = ap (λ (r : Result (List ℕ) ScriptCode). r >>= λ xs. Ok (byte ∷ xs)) (later e)
not_read true false all byte more e later = refl
not_read false low all byte more e later = refl

-- where one is no digit, no bytes are read
pub no_bytes : (digits : List ℕ) → list_all (λ b. is_digit b 16) digits ≡ false → bytes_of digits ≡ Err BadHex
no_bytes [] e = cc
no_bytes (a ∷ []) e = refl
no_bytes (a ∷ b ∷ rest) e =
    not_read (is_digit a 16) (is_digit b 16) (list_all (λ c. is_digit c 16) rest) (16 * digit_value a + digit_value b) (bytes_of rest) e (no_bytes rest)
