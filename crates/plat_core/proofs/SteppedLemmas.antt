-- All that a turn of an initiator leaves of a core.
use Rattle.std.proofs.Common.{◌≡◌, ℕ, ◌+◌, List, length, set, Some, Bool, false, refl, ap, sym, subst, ◌∙◌}
use Rattle.std.specs.Prelude.{slice_get}
use Rattle.std.proofs.lemmas.Bool.{false≢true}
use Rattle.tlm_model.specs.Plan.{Plan}
use Rattle.region_object.specs.Region.{LoggedMemory}
use Rattle.time_board.specs.declared.rounds.Member.{Member}
use Rattle.plat_core.specs.Board.{AreInRounds}
use Rattle.initiator_run.specs.Board.{HasGoneOn, IsInRound}
use Rattle.plat_core.specs.Core.{GoesOn, HasStopped, IsCore, IsStep, history_of}
use Rattle.plat_core.specs.declared.steps.CoreStep.{CoreStep}
use Rattle.plat_core.specs.declared.steps.CoreStep.TheVariants.{Made, Waits, Finished}
use Rattle.initiator_run.specs.declared.turn.Turn.{Turn}
use Rattle.initiator_run.specs.declared.turn.Turn.TheVariants as turn
use Rattle.initiator_run.specs.Run.{Run}
use Rattle.initiator_run.specs.Turns.{IsTurn}
use Rattle.plat_core.proofs.CoreLemmas.{core_ended, core_made, core_waited, has_turn, made_access, moved_to_end, moved_to_wait, whole_write, written}
use Rattle.plat_core.proofs.ProgressLemmas.{goes_made, goes_moved, stops_ended, stops_waited}
use Rattle.plat_core.proofs.ViewLemmas.{rounds_made, rounds_same, step_ended, step_made, step_waited, view}

-- an initiator that takes a turn, and what the turn does
pub record Turns (p : Plan) (runs : List Run) (regions : List LoggedMemory) (members : List Member) (made k : ℕ) (old new : Run) (given left : List LoggedMemory) (after : List Member) (turn : Turn) : Type 0 where
  pub core : IsCore p runs regions made
  pub rounds : AreInRounds p (history_of regions) runs members
  pub at : slice_get runs k ≡ Some old
  pub going : old.finished ≡ false
  pub given_is : given ≡ regions
  pub turn_is : IsTurn p old new after given left made turn
  pub gone : HasGoneOn old new members after

-- a run of the core is in its round
pub in_round : (p : Plan) (runs : List Run) (regions : List LoggedMemory) (members : List Member) (made k : ℕ) (r : Run) → IsCore p runs regions made → AreInRounds p (history_of regions) runs members → slice_get runs k ≡ Some r → IsInRound members r.engine.initiator r
in_round p runs regions members made k r core are at =
    let turn = has_turn p runs regions made k r core at in
    subst (λ (n : ℕ). IsInRound members n r) (sym (turn.own.come.counted.number ∙ turn.number)) (are.each k r at)

-- whether the run of this number has finished
pub flag_is : (runs : List Run) (k : ℕ) (a b : Run) (flag : Bool) → slice_get runs k ≡ Some a → slice_get runs k ≡ Some b → a.finished ≡ flag → b.finished ≡ flag
flag_is runs k a b flag first second is = ap (λ (r : Run). r.finished) (same b a (sym second ∙ first)) ∙ is
  where
    same : (x y : Run) → Some x ≡ Some y → x ≡ y
    same x y is = cc

-- the core after a turn, and the step that it was
pub record HasStepped (p : Plan) (runs : List Run) (regions : List LoggedMemory) (members : List Member) (k : ℕ) (new : Run) (later : List LoggedMemory) (after : List Member) (made : ℕ) (step : CoreStep) : Type 0 where
  pub core : IsCore p (set runs k new) later made
  pub rounds : AreInRounds p (history_of later) (set runs k new) after
  pub step_is : IsStep (view p regions runs members) k (view p later (set runs k new) after) step
  pub goes : GoesOn (view p regions runs members) (view p later (set runs k new) after)
  pub stops : HasStopped (view p regions runs members) k (view p later (set runs k new) after) step

module _ (p : Plan) (runs : List Run) (regions : List LoggedMemory) (members : List Member) (made k : ℕ) (old new : Run) (given left : List LoggedMemory) (after : List Member) (size : ℕ) (same : length left ≡ size) where
  pub stepped_made : Turns p runs regions members made k old new given left after turn.Made → HasStepped p runs regions members k new (written size left regions) after (made + 1) (Made made)
  stepped_made t =
      let is = made_access p old new after given regions left made turn.Made t.given_is t.turn_is refl in
      let goes = goes_made p runs regions left members after made k old new t.core t.rounds t.at t.going is t.gone in
      subst (λ (l : List LoggedMemory). HasStepped p runs regions members k new l after (made + 1) (Made made)) (sym (whole_write size left regions same)) (record {
        core = core_made p runs regions left made k old new t.core t.at is;
        rounds = rounds_made p runs regions left members after made k old new t.core t.rounds t.at t.going is t.gone;
        step_is = step_made p runs regions left members after made k old new t.core t.rounds t.at t.going is t.gone;
        goes = goes.0;
        stops = goes.1;
      })

  pub stepped_waits : Turns p runs regions members made k old new given left after turn.Waits → HasStepped p runs regions members k new (written size left regions) after made Waits
  stepped_waits t =
      let is = moved_to_wait p old new after given regions left made turn.Waits t.given_is t.turn_is refl in
      let still = ap history_of is.same in
      subst (λ (l : List LoggedMemory). HasStepped p runs regions members k new l after made Waits) (sym (whole_write size left regions same)) (record {
        core = core_waited p runs regions left after made k old new t.core t.at t.going is;
        rounds = rounds_same p runs regions left members after made k old new t.core t.rounds t.at t.going still t.gone (λ f. absurd (false≢true (sym (is.finished ∙ t.going) ∙ f)));
        step_is = step_waited p runs regions left members after made k old new t.core t.rounds t.at t.going is t.gone;
        goes = goes_moved p runs regions left members after made k old new t.core t.rounds t.at t.going still t.gone;
        stops = stops_waited p runs regions left members after made k old new t.core t.rounds t.at t.going is t.gone;
      })

  pub stepped_ended : Turns p runs regions members made k old new given left after turn.Ended → HasStepped p runs regions members k new (written size left regions) after made Finished
  stepped_ended t =
      let is = moved_to_end p old new after given regions left made turn.Ended t.given_is t.turn_is refl in
      let still = ap history_of is.same in
      subst (λ (l : List LoggedMemory). HasStepped p runs regions members k new l after made Finished) (sym (whole_write size left regions same)) (record {
        core = core_ended p runs regions left made k old new t.core t.at is;
        rounds = rounds_same p runs regions left members after made k old new t.core t.rounds t.at t.going still t.gone (λ f. is.through);
        step_is = step_ended p runs regions left members after made k old new t.core t.rounds t.at t.going is t.gone;
        goes = goes_moved p runs regions left members after made k old new t.core t.rounds t.at t.going still t.gone;
        stops = stops_ended p runs regions left members after made k old new t.core t.rounds t.at t.going is t.gone;
      })
