-- A memory that gives its gates one after another.
use Rattle.std.specs.Prelude.{ℕ, ◌≡◌, ◌+◌, ◌<◌, IsTrue, List, [], ◌∷◌, if◌then◌else◌}
use Rattle.tlm_types.specs.declared.entry.Entry.{Entry}
use Rattle.tlm_types.specs.declared.entry.What.{What}
use Rattle.tlm_types.specs.declared.entry.What.TheVariants.{Granted}
use Rattle.tlm_model.specs.Each.{AtEach}
use Rattle.good_history.specs.Grants.{is_given, is_grant}

-- how many grants a log has
abbrev pub grants_in : List Entry → ℕ
grants_in [] = 0
grants_in (e ∷ es) = (if is_grant e.what then 1 else 0) + grants_in es

abbrev pub TakesNextGate : ℕ → List Entry → What → Type 0
TakesNextGate first before (Granted gate f l k) = gate ≡ first + grants_in before
TakesNextGate first before w = Unit {0}

-- each grant takes the least gate that was never given
abbrev pub TakesGatesInTurn : ℕ → List Entry → Type 0
TakesGatesInTurn first log = AtEach (λ before e. TakesNextGate first before e.what) log

-- so as many gates were given as there are grants, from the first on
abbrev pub GivesAsManyGates : Type 0
GivesAsManyGates = (first : ℕ) (log : List Entry) → TakesGatesInTurn first log → (k : ℕ) → k < grants_in log → IsTrue (is_given (first + k) log)

-- and no others
abbrev pub GivesNoOtherGates : Type 0
GivesNoOtherGates = (first : ℕ) (log : List Entry) → TakesGatesInTurn first log → (g : ℕ) → IsTrue (is_given g log) → g < first + grants_in log
