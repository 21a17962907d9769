-- The outcome of a core, and of a schedule.
use Rattle.std.specs.Prelude.{ℕ, ◌≡◌, ◌<◌, ◌≤◌, true, List, [], ◌∷◌, length, Some, slice_get}
use Rattle.tlm_types.specs.declared.ends.EndOf.{EndOf}
use Rattle.tlm_model.specs.History.{last_store}
use Rattle.tlm_model.specs.Plan.{Plan, Initiator, initiators_of}
use Rattle.report_model.specs.Ends.{IsEndOf}
use Rattle.good_history.specs.Good.{IsGood, IsSound}
use Rattle.run_outcome.specs.declared.outcome.Outcome.{Outcome}
use Rattle.plat_core.specs.declared.steps.CoreStep.{CoreStep}
use Rattle.plat_core.specs.Rounds.{KeepsRounds}
use Rattle.plat_core.specs.Core.{CoreView, IsStep, actors_of, all_true, begun_core}

-- An outcome is that of a core: its history, which is sound and keeps the rounds, the bytes of each memory, and how each initiator
-- ended that has finished. Where all have finished it is complete, and the history is good.
pub record IsOutcome (core : CoreView) (outcome : Outcome) : Type 0 where
  pub history : outcome.history.entries ≡ core.history
  pub sound : IsSound core.plan core.history
  pub rounds : KeepsRounds core.plan core.history
  pub complete : outcome.complete ≡ all_true core.finished
  pub scripts : length core.plan.scripts ≡ length core.plan.platform.initiators
  pub flags : length core.finished ≡ length core.plan.platform.initiators
  pub good : all_true core.finished ≡ true → IsGood core.plan core.history
  pub memories : length outcome.stores ≡ length core.plan.platform.memories
  pub stores : (m : ℕ) (bytes : List ℕ) → slice_get outcome.stores m ≡ Some bytes → bytes ≡ last_store core.plan.platform core.history m
  pub initiators : length outcome.ends ≡ length core.plan.platform.initiators
  pub ends : (n : ℕ) (i : Initiator) (end : EndOf) → slice_get core.finished n ≡ Some true → slice_get (initiators_of core.plan) n ≡ Some i → slice_get outcome.ends n ≡ Some end → IsEndOf core.plan i core.history end

-- one number of a schedule: a step of the actor that it names, or nothing
pub data IsTurnOf (old : CoreView) (n : ℕ) (new : CoreView) : Type 0 where
  Steps : n < actors_of old.plan.platform → (step : CoreStep) → IsStep old n new step → IsTurnOf old n new
  Passes : actors_of old.plan.platform ≤ n → new ≡ old → IsTurnOf old n new

-- a core that has gone through a schedule
abbrev pub HasFollowed : CoreView → List ℕ → CoreView → Type 0
HasFollowed old [] new = new ≡ old
HasFollowed old (n ∷ ns) new = (middle : CoreView) × IsTurnOf old n middle × HasFollowed middle ns new

-- the outcome of a schedule: that of a new core that has followed it
pub record IsScheduled (p : Plan) (schedule : List ℕ) (outcome : Outcome) : Type 0 where
  pub core : CoreView
  pub followed : HasFollowed (begun_core p) schedule core
  pub ended : IsOutcome core outcome
