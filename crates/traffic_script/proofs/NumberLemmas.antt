-- Numbers, digit by digit.
use Rattle.std.proofs.Common.{◌≡◌, ℕ, ◌+◌, ◌*◌, ◌^◌, ◌<◌, ◌≤◌, List, length, take, get_or, Bool, true, false, cond, ◌&&◌, nat_lt, Ok, Err, refl, sym, ap, ◌∙◌, arith}
use Rattle.std.specs.List.{list_all}
use Rattle.std.specs.Char.{is_digit, digit_value}
use Rattle.std.specs.Str.Parse.{digits_value}
use Rattle.std.proofs.lemmas.Bool.Decides.{nat_tests}
use Rattle.std.proofs.lemmas.List.Folds.{list_all_more}
use Rattle.std.proofs.lemmas.Int.Digits.{digits_value_more}
use Rattle.std.proofs.lemmas.Str.Parse.{digits_value-take-le}
use Rattle.traffic_script.specs.declared.fault.ScriptCode.TheVariants.{BadNumber}
use Rattle.traffic_script.specs.Numbers.{number_in}

-- a test that fails in the last place
no_third : (a b c : Bool) → c ≡ false → (a && b) && c ≡ false
no_third true true c e = e
no_third true false c e = refl
no_third false b c e = refl

-- the next digit writes too large a number
pub number_large : (base : ℕ) (digits : List ℕ) (i total : ℕ) → 1 ≤ base → i < length digits → total ≡ digits_value base (take i digits) → ¬ (total * base + digit_value (get_or digits i 0) < 2 ^ 64) → number_in base digits ≡ Err BadNumber
number_large base digits i total some lt so_far large =
    let more : digits_value base (take (i + 1) digits) ≡ total * base + digit_value (get_or digits i 0) = digits_value_more base digits i lt ∙ cc in
    let le = digits_value-take-le base digits (i + 1) some in
    let not_less : 2 ^ 64 ≤ total * base + digit_value (get_or digits i 0) = omega arith in
    let test : nat_lt (digits_value base digits) (2 ^ 64) ≡ false = grind (arith, nat_tests) in
    ap (λ b. cond b (Ok (digits_value base digits)) (Err BadNumber)) (no_third (nat_lt 0 (length digits)) (list_all (λ c. is_digit c base) digits) (nat_lt (digits_value base digits) (2 ^ 64)) test)

-- one more digit
pub digits_more : (base : ℕ) (digits : List ℕ) (i : ℕ) → i < length digits → list_all (λ c. is_digit c base) (take i digits) ≡ true → is_digit (get_or digits i 0) base ≡ true → list_all (λ c. is_digit c base) (take (i + 1) digits) ≡ true
digits_more base digits i lt so_far read =
    list_all_more (λ c. is_digit c base) digits i 0 lt ∙ rw (so_far, read) refl

-- and its value
pub value_more : (base : ℕ) (digits : List ℕ) (i total : ℕ) → i < length digits → total ≡ digits_value base (take i digits) → total * base + digit_value (get_or digits i 0) ≡ digits_value base (take (i + 1) digits)
value_more base digits i total lt so_far =
    sym (digits_value_more base digits i lt ∙ cc)
