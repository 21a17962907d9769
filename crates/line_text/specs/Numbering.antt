-- A word with the numbers that follow it.
use Rattle.std.specs.Prelude.{ℕ, ◌≡◌, ◌/◌, List, ◌++◌, codes}
use Rattle.std.specs.Fmt.{decimal}

-- the word, and the hundred whose digits are kept
pub record NumberingView : Type 0 where
  pub word : List ℕ
  pub hundred : ℕ

-- the number is of that hundred
abbrev pub IsReady : NumberingView → ℕ → Type 0
IsReady n number = number / 100 ≡ n.hundred

-- the word with a number, and a space
abbrev pub numbered_text : List ℕ → ℕ → List ℕ
numbered_text word number = word ++ (decimal number ++ codes " ")
