-- What a sink took of some bytes.
use Rattle.std.specs.Prelude.{ℕ, ◌≡◌, ◌≤◌, List, Option, Bool, true, false, Result, Ok, Err}
use Rattle.trace_print.specs.declared.PrintFault.{PrintFault}
use Rattle.trace_print.specs.declared.PrintFault.TheVariants.{Failed, Memory}
use Rattle.outside.specs.Causes.{Rose}
use Rattle.outside.specs.Pieces.{TakesAll, TakesPrefix}

-- a sink before and after a call: the bytes that it has taken, where it tells them, and its count of faults
pub record SinkChange : Type 0 where
  pub taken_before : Option (List ℕ)
  pub taken_after : Option (List ℕ)
  pub faults_before : ℕ
  pub faults_after : ℕ

-- The sink took all these bytes, or failed, and took a prefix of them.
pub record Writes (sink : SinkChange) (bytes : List ℕ) (done : Bool) : Type 0 where
  pub all : done ≡ true → TakesAll sink.taken_before sink.taken_after bytes
  pub part : done ≡ false → TakesPrefix sink.taken_before sink.taken_after bytes
  pub later : sink.faults_before ≤ sink.faults_after
  pub failed : done ≡ false → Rose sink.faults_before sink.faults_after

-- The sink took just these bytes, where its count didn't rise.
abbrev pub Tells : SinkChange → List ℕ → Type 0
Tells sink bytes = (¬ Rose sink.faults_before sink.faults_after) → TakesAll sink.taken_before sink.taken_after bytes

-- what came of a report: it was taken whole; or the sink failed, and took a prefix of it; or memory was refused, and
-- nothing was taken
abbrev pub IsPrinted : Result (Unit {0}) PrintFault → SinkChange → List ℕ → Type 0
IsPrinted (Ok x) sink bytes = TakesAll sink.taken_before sink.taken_after bytes
IsPrinted (Err Failed) sink bytes = TakesPrefix sink.taken_before sink.taken_after bytes × Rose sink.faults_before sink.faults_after
IsPrinted (Err Memory) sink bytes = sink.taken_after ≡ sink.taken_before
