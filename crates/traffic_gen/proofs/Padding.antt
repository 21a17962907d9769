-- A number that is padded to 16 digits.
use Rattle.std.proofs.Common.{◌≡◌, ℕ, ◌-◌, ◌^◌, [], ◌++◌, false, length, replicate, refl, ap, arith, List, Some}
use Rattle.std.proofs.lemmas.List.{append-nil}
use Rattle.std.specs.Fmt.{char_count, digits, digits_output, format_spec, padded_integral, styled_digits_output}
use Rattle.traffic_gen.specs.Texts.{data_of}

pub padded_hex : (x : ℕ) → padded_integral (format_spec 32 0 4 16 (2 ^ 64 - 1)) false [] (digits 16 false x) ≡ data_of x
unfolding padded_integral char_count
padded_hex x =
    let len = length (digits 16 false x) in
    let nothing : char_count [] ≡ 0 = refl in
    let few : 16 - len - 0 - char_count [] ≡ 16 - len = omega (arith, nothing) in
    λ i. replicate (few i) 48 ++ append-nil (digits 16 false x) i

-- what a hole of such digits writes
pub written_hex : (d : _) (s : _) (x : ℕ) → digits_output d ≡ Some (digits 16 false x) → s ≡ format_spec 32 0 4 16 (2 ^ 64 - 1) → styled_digits_output d s ≡ Some (data_of x)
written_hex d s x made laid =
    rw (made, laid) (ap (λ (ds : List ℕ). Some ds) (padded_hex x))
