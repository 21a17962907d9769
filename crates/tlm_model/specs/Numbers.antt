-- Numbers as bytes, the least first.
use Rattle.std.specs.Prelude.{ℕ, ◌+◌, ◌*◌, ◌%◌, ◌/◌, ◌^◌, List, [], ◌∷◌}

-- the number of some bytes
abbrev pub le_number : List ℕ → ℕ
le_number [] = 0
le_number (b ∷ bs) = b + 256 * le_number bs

-- a number as four bytes
abbrev pub le_bytes : ℕ → List ℕ
le_bytes x = x % 256 ∷ (x / 256) % 256 ∷ (x / 65536) % 256 ∷ (x / 16777216) % 256 ∷ []

-- four bytes plus a number, modulo 2^32
abbrev pub added : List ℕ → ℕ → List ℕ
added bytes n = le_bytes ((le_number bytes + n) % 2 ^ 32)
