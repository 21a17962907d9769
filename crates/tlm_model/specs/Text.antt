-- Words of the report, as lists of bytes.
use Rattle.std.specs.Prelude.{ℕ, ◌%◌, ◌/◌, List, [], ◌∷◌, ◌++◌, false, codes}
use Rattle.std.specs.Fmt.{digits, digit_glyph}
use Rattle.std.specs.List.{join_with_byte}

-- an address: `0x` and lower-case hexadecimal digits without leading zeros
abbrev pub address_word : ℕ → List ℕ
address_word n = codes "0x" ++ digits 16 false n

-- each byte as two lower-case hexadecimal digits
abbrev pub hex_of : List ℕ → List ℕ
hex_of [] = []
hex_of (b ∷ bs) = digit_glyph false (b / 16) ∷ digit_glyph false (b % 16) ∷ hex_of bs

-- the bytes, or `-` where there are none
abbrev pub data_word : List ℕ → List ℕ
data_word [] = codes "-"
data_word (b ∷ bs) = hex_of (b ∷ bs)

-- an offset below 2^32 as 8 hexadecimal digits
abbrev pub offset_word : ℕ → List ℕ
offset_word n = hex_of ((n / 16777216) % 256 ∷ (n / 65536) % 256 ∷ (n / 256) % 256 ∷ n % 256 ∷ [])

-- a line: words with single spaces between them, and a line feed
abbrev pub line_of : List (List ℕ) → List ℕ
line_of words = join_with_byte 32 words ++ 10 ∷ []
