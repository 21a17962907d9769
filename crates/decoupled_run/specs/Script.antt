-- Where an engine stands in its initiator's script, as far as plain accesses go.
use Rattle.std.specs.Prelude.{ℕ, zero, suc, ◌≡◌, ◌+◌, ◌<◌, ◌++◌, Bool, true, List, length, Option, Some, None}
use Rattle.tlm_model.specs.declared.operation.Operation.{Operation}
use Rattle.tlm_model.specs.Plan.{Initiator}
use Rattle.good_history.specs.Plain.{is_plain_at}
use Rattle.script_engine.specs.State.{Due, State}

-- whether the request that is k numbers ahead is a plain access: the write that is due is one, and what comes after it is read off the operations
abbrev pub is_plain_ahead : Option Due → List Operation → ℕ → Bool
is_plain_ahead None ops k = is_plain_at ops k
is_plain_ahead (Some w) ops zero = true
is_plain_ahead (Some w) ops (suc k) = is_plain_at ops k

-- a write that is due has some bytes
abbrev pub HasBytes : Option Due → Type 0
HasBytes None = Unit {0}
HasBytes (Some w) = 0 < length w.bytes

-- The script has the requests that the engine is still to make at the numbers that these will have, and ends with the operations that remain.
pub record IsInScript (i : Initiator) (e : State) : Type 0 where
  pub plain : (k : ℕ) → is_plain_at i.script (e.seq + k) ≡ is_plain_ahead e.due e.remaining k
  pub due : HasBytes e.due
  pub before : List Operation
  pub whole : i.script ≡ before ++ e.remaining
