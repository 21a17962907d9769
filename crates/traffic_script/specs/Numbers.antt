-- The numbers and bytes that words write.
use Rattle.std.specs.Prelude.{ℕ, ◌+◌, ◌-◌, ◌*◌, ◌^◌, ◌&&◌, ◌==◌, List, [], ◌∷◌, length, drop, nat_eq, nat_lt, nat_le, if◌then◌else◌, Result, Ok, Err, codes}
use Rattle.std.specs.Char.{is_digit, digit_value}
use Rattle.std.specs.List.{list_all, starts_with}
use Rattle.std.specs.Str.Parse.{digits_value}
use Rattle.traffic_script.specs.declared.fault.ScriptCode.{ScriptCode}
use Rattle.traffic_script.specs.declared.fault.ScriptCode.TheVariants.{BadNumber, BadHex, BadLength}
use Rattle.tlm_types.specs.Enables.{is_enable}
use Rattle.tlm_types.specs.Reading.{◌>>=◌}

-- the number that one or more digits of a base write, below 2^64; letters are of either case
abbrev pub number_in : ℕ → List ℕ → Result ℕ ScriptCode
number_in base digits =
    if nat_lt 0 (length digits) && list_all (λ c. is_digit c base) digits && nat_lt (digits_value base digits) (2 ^ 64)
    then Ok (digits_value base digits) else Err BadNumber

-- a number: decimal digits, or `0x` and hexadecimal digits
abbrev pub read_number : List ℕ → Result ℕ ScriptCode
read_number word = if starts_with nat_eq word (codes "0x") then number_in 16 (drop 2 word) else number_in 10 word

-- a number from least to most, or this code
abbrev pub within : ScriptCode → ℕ → ℕ → ℕ → Result ℕ ScriptCode
within code least most n = if nat_le least n && nat_le n most then Ok n else Err code

-- a length in bytes
abbrev pub length_of : List ℕ → Result ℕ ScriptCode
length_of word = read_number word >>= within BadLength 1 4096

-- the number of bytes that an invalidation names
abbrev pub span_of : List ℕ → Result ℕ ScriptCode
span_of word = read_number word >>= within BadLength 1 (2 ^ 64 - 1)

-- how often a repeat is done
abbrev pub times_of : List ℕ → Result ℕ ScriptCode
times_of word = read_number word >>= within BadNumber 1 100000

-- the number that `add` or `fetch_add` adds
abbrev pub addend_of : List ℕ → Result ℕ ScriptCode
addend_of word = read_number word >>= within BadNumber 0 0xffff_ffff

-- two hexadecimal digits are a byte
abbrev pub byte_of : ℕ → ℕ → Result ℕ ScriptCode
byte_of high low = if is_digit high 16 && is_digit low 16 then Ok (16 * digit_value high + digit_value low) else Err BadHex

-- each two digits are a byte
abbrev pub bytes_of : List ℕ → Result (List ℕ) ScriptCode
bytes_of [] = Ok []
bytes_of (high ∷ []) = Err BadHex
bytes_of (high ∷ low ∷ more) = do
  byte ← byte_of high low
  bytes ← bytes_of more
  Ok (byte ∷ bytes)

-- at least two digits
abbrev pub read_hex : List ℕ → Result (List ℕ) ScriptCode
read_hex word = if length word == 0 then Err BadHex else bytes_of word

-- at most 4,096 bytes
abbrev pub few : List ℕ → Result (List ℕ) ScriptCode
few bytes = if nat_le (length bytes) 4096 then Ok bytes else Err BadLength

-- byte enables are 00 or ff
abbrev pub only_enables : List ℕ → Result (List ℕ) ScriptCode
only_enables bytes = if list_all is_enable bytes then Ok bytes else Err BadHex

abbrev pub data_of : List ℕ → Result (List ℕ) ScriptCode
data_of word = read_hex word >>= few

abbrev pub enables_of : List ℕ → Result (List ℕ) ScriptCode
enables_of word = read_hex word >>= only_enables >>= few
