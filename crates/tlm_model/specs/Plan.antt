-- A platform with its scripts.
use Rattle.std.specs.Prelude.{ℕ, ◌+◌, List, [], ◌∷◌}
use Rattle.tlm_model.specs.declared.operation.Operation.{Operation}
use Rattle.tlm_model.specs.declared.platform.InitiatorRow.{InitiatorRow}
use Rattle.tlm_model.specs.declared.platform.Platform.{Platform}

-- a platform, and the script of each of its initiators in order
pub record Plan : Type 0 where
  pub platform : Platform
  pub scripts : List (List Operation)

-- an initiator: its number, its row and its script
pub record Initiator : Type 0 where
  pub number : ℕ
  pub row : InitiatorRow
  pub script : List Operation

-- the initiators of these rows and scripts, numbered from n
abbrev pub initiators_from : ℕ → List InitiatorRow → List (List Operation) → List Initiator
initiators_from n [] scripts = []
initiators_from n (row ∷ rows) [] = []
initiators_from n (row ∷ rows) (script ∷ scripts) = record { number = n; row = row; script = script } ∷ initiators_from (n + 1) rows scripts

abbrev pub initiators_of : Plan → List Initiator
initiators_of p = initiators_from 0 p.platform.initiators p.scripts
