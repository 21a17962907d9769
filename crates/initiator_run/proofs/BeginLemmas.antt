-- Runs before their first move.
use Rattle.std.proofs.Common.{◌≡◌, ℕ, zero, suc, ◌+◌, ◌≤◌, List, [], ◌∷◌, length, Some, Bool, true, false, cond, ap, arith}
use Rattle.std.specs.Prelude.{slice_get}
use Rattle.tlm_model.specs.declared.operation.Operation.{Operation}
use Rattle.tlm_model.specs.declared.platform.InitiatorRow.{InitiatorRow}
use Rattle.tlm_model.specs.declared.platform.Platform.{Platform}
use Rattle.tlm_model.specs.Plan.{Plan, Initiator, initiators_from, initiators_of}
use Rattle.tlm_model.specs.Requests.{time_after}
use Rattle.tlm_model.specs.Rounds.{syncs_after, syncs_from}
use Rattle.tlm_model.proofs.HistoryLemmas.{all_at}
use Rattle.traffic_script.specs.Proper.{AreProper}
use Rattle.route_plan.specs.Valid.{IsValid}

-- at most one sync stands after an operation
pub syncs_bound : (p : Platform) (i : Initiator) (now t : ℕ) (ops : List Operation) → syncs_from p i now t ops ≤ length ops
syncs_bound p i now t [] = omega arith
syncs_bound p i now t (op ∷ ops) = by_cases (syncs_after p.quantum now (time_after p i t op) op) (syncs_bound p i (time_after p i t op) (time_after p i t op) ops) (syncs_bound p i now (time_after p i t op) ops)
  where
    by_cases : (b : Bool) → syncs_from p i (time_after p i t op) (time_after p i t op) ops ≤ length ops → syncs_from p i now (time_after p i t op) ops ≤ length ops → cond b (syncs_from p i (time_after p i t op) (time_after p i t op) ops + 1) (syncs_from p i now (time_after p i t op) ops) ≤ suc (length ops)
    by_cases true x y = omega arith
    by_cases false x y = omega arith

-- an initiator has the script of its number
pub script_from : (k n : ℕ) (rows : List InitiatorRow) (scripts : List (List Operation)) (i : Initiator) → slice_get (initiators_from k rows scripts) n ≡ Some i → slice_get scripts n ≡ Some i.script
script_from k n [] scripts i is = cc
script_from k n (row ∷ rows) [] i is = cc
script_from k zero (row ∷ rows) (script ∷ scripts) i is =
    let same : record { number = k; row = row; script = script } ≡ i = cc in
    ap (λ (x : Initiator). Some x.script) same
script_from k (suc n) (row ∷ rows) (script ∷ scripts) i is = script_from (k + 1) n rows scripts i is

-- the script of an initiator of a valid plan is proper
pub proper_at : (p : Plan) → IsValid p → (n : ℕ) (i : Initiator) → slice_get (initiators_of p) n ≡ Some i → AreProper i.script
proper_at p valid n i is = all_at AreProper p.scripts n i.script valid.proper (script_from 0 n p.platform.initiators p.scripts i is)
