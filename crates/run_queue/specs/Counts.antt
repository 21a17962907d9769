-- What is seen of a queue that threads share.
use Rattle.std.specs.Prelude.{ℕ}

-- how many jobs there are, and how many of them have to finish
pub record Counts : Type 0 where
  pub jobs : ℕ
  pub unfinished : ℕ
