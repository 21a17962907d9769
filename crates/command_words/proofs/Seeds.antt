-- Words that are seeds.
use Rattle.std.proofs.Common.{◌≡◌, ℕ, ◌^◌, ◌<◌, Bool, true, false, Option, Some, None, Result, Ok, refl, sym, ◌∙◌, ap, subst, nat_lt}
use Rattle.std.proofs.lemmas.Bool.Decides.{Decides-ltb}
use Rattle.std.proofs.lemmas.Fmt.{decimal_is_IsNumeral, parse-decimal}
use Rattle.std.proofs.lemmas.Slice.Eq.{bytes_eq-Decides}
use Rattle.std.specs.Fmt.{decimal}
use Rattle.std.specs.Str.{bytes_eq}
use Rattle.std.specs.Str.Parse.{ParsesUnsigned, digits_value}
use Rattle.command_words.specs.Words.{Text, seed_of}

-- what is printed so is a seed
pub printed_is_seed : (word : Text) (n : ℕ) → n < 2 ^ 64 → word ≡ decimal n → Some n ≡ seed_of word
printed_is_seed word n below same =
    let value : digits_value 10 word ≡ n = ap (digits_value 10) same ∙ (decimal_is_IsNumeral n below).1 in
    let small : nat_lt (digits_value 10 word) (2 ^ 64) ≡ true = (Decides-ltb (digits_value 10 word) (2 ^ 64)).1 (subst (λ (v : ℕ). v < 2 ^ 64) (sym value) below) in
    let printed : bytes_eq word (decimal (digits_value 10 word)) ≡ true = (bytes_eq-Decides word (decimal (digits_value 10 word))).1 (same ∙ ap decimal (sym value)) in
    rw (small, printed) (ap (λ (v : ℕ). Some v) (sym value))

-- a seed is a number, printed
pub record IsPrinted (word : Text) (n : ℕ) : Type 0 where
  pub below : n < 2 ^ 64
  pub is : word ≡ decimal n

pub seed_is_printed : (word : Text) (n : ℕ) → seed_of word ≡ Some n → IsPrinted word n
seed_is_printed word n e = go (nat_lt (digits_value 10 word) (2 ^ 64)) (bytes_eq word (decimal (digits_value 10 word))) refl refl
  where
    go : (a b : Bool) → nat_lt (digits_value 10 word) (2 ^ 64) ≡ a → bytes_eq word (decimal (digits_value 10 word)) ≡ b → IsPrinted word n
    go true true f g =
        let some : Some (digits_value 10 word) ≡ Some n = rw (f, g) at e in
        let value : digits_value 10 word ≡ n = cc in
        subst (λ (v : ℕ). IsPrinted word v) value (record {
          below = (Decides-ltb (digits_value 10 word) (2 ^ 64)).0 f;
          is = (bytes_eq-Decides word (decimal (digits_value 10 word))).0 g;
        })
    go true false f g = let no : None ≡ Some n = rw (f, g) at e in absurd (cc)
    go false b f g = let no : None ≡ Some n = rw f at e in absurd (cc)

-- so it is parsed as that number
pub seed_is_parsed : {E : Type 0} (word : Text) (n : ℕ) (r : Result ℕ E) → seed_of word ≡ Some n → ParsesUnsigned 64 10 word r → r ≡ Ok n
seed_is_parsed word n r e parsed = let p = seed_is_printed word n e in parse-decimal 64 n word r p.below p.below p.is parsed

-- a word is no seed where each seed would be another
pub no_seed : (word : Text) → ((n : ℕ) → seed_of word ≡ Some n → ⊥) → None ≡ seed_of word
no_seed word never = go (seed_of word) refl
  where
    go : (o : Option ℕ) → seed_of word ≡ o → None ≡ o
    go None e = refl
    go (Some n) e = absurd (never n e)
