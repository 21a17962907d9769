-- How a run ended.
use Rattle.std.specs.Prelude.{ℕ, ◌≡◌, true, List, length, Some, slice_get}
use Rattle.tlm_types.specs.declared.ends.EndOf.{EndOf}
use Rattle.tlm_model.specs.History.{last_store}
use Rattle.tlm_model.specs.Plan.{Plan, Initiator, initiators_of}
use Rattle.report_model.specs.Ends.{IsEndOf}
use Rattle.good_history.specs.Good.{IsGood}
use Rattle.run_outcome.specs.declared.outcome.Outcome.{Outcome}

-- What a report takes of an outcome is that of its history: for each memory and each initiator of the plan there is
-- one, and it is what the definitions say.
pub record IsReportable (p : Plan) (outcome : Outcome) : Type 0 where
  pub scripts : length p.scripts ≡ length p.platform.initiators
  pub memories : length outcome.stores ≡ length p.platform.memories
  pub stores : (m : ℕ) (bytes : List ℕ) → slice_get outcome.stores m ≡ Some bytes → bytes ≡ last_store p.platform outcome.history.entries m
  pub initiators : length outcome.ends ≡ length p.platform.initiators
  pub ends : (n : ℕ) (i : Initiator) (end : EndOf) → slice_get (initiators_of p) n ≡ Some i → slice_get outcome.ends n ≡ Some end → IsEndOf p i outcome.history.entries end

-- the outcome of a whole run: all initiators have finished, the history is good, and a report can be made of it
pub record IsWhole (p : Plan) (outcome : Outcome) : Type 0 where
  pub complete : outcome.complete ≡ true
  pub good : IsGood p outcome.history.entries
  pub reportable : IsReportable p outcome
