-- The numbers that lines of generated scripts are made of.
use Rattle.std.specs.Prelude.{ℕ, ◌+◌, ◌*◌, ◌%◌, ◌^◌, zero, suc}

-- the number that follows, modulo 2^64
abbrev pub next : ℕ → ℕ
next x = (x * 6364136223846793005 + 1442695040888963407) % 2 ^ 64

-- the number n steps on
unfoldable pub drawn : ℕ → ℕ → ℕ
drawn zero x = x
drawn (suc n) x = drawn n (next x)
