-- What is seen of a sink in memory.
use Rattle.std.specs.Prelude.{ℕ, List, Option, find, ◌==◌}
use Rattle.std.specs.Option.{option_map}
use Rattle.outside.specs.declared.sinks.FailingWrite.{FailingWrite}

-- its bytes, its writes that are to fail, and how many writes and failures there were
pub record SinkState : Type 0 where
  pub bytes : List ℕ
  pub failing : List FailingWrite
  pub writes : ℕ
  pub faults : ℕ

-- how many bytes the write of this number is to take before it fails, where it is to fail
abbrev pub takes_of : List FailingWrite → ℕ → Option ℕ
takes_of failing number = option_map (λ f. f.takes) (find (λ f. f.write == number) failing)

-- the same of the next write
abbrev pub cut : SinkState → Option ℕ
cut s = takes_of s.failing s.writes
