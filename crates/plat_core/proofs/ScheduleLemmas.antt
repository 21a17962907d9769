-- What a schedule comes to, by either core.
use Rattle.std.proofs.Common.{◌≡◌, ℕ, List, [], ◌∷◌, Option, Some, None, sym, ap, subst, ◌∙◌}
use Rattle.std.specs.Prelude.{MatchOption, slice_get}
use Rattle.tlm_model.specs.Plan.{Plan, Initiator, initiators_of}
use Rattle.good_history.specs.Good.{IsSound}
use Rattle.run_outcome.specs.declared.outcome.Outcome.{Outcome}
use Rattle.run_outcome.specs.Outcome.{IsWhole}
use Rattle.plat_core.specs.declared.steps.CoreStep.{CoreStep}
use Rattle.plat_core.specs.declared.steps.CoreStep.TheVariants.{Made, Waits, Finished}
use Rattle.plat_core.specs.Core.{CoreView, IsInitiatorStep, IsNodeStep, begun_core}
use Rattle.plat_core.specs.NetOutcome.{IsScheduledBy, IsSoFarAsMade}
use Rattle.plat_core.specs.Outcome.{HasFollowed, IsScheduled, IsTurnOf, Passes, Steps}
use Rattle.plat_core.proofs.ReportLemmas.{whole_of}

-- a step changes nothing of the plan
node_plan : (old new : CoreView) (step : CoreStep) → IsNodeStep old new step → new.plan ≡ old.plan
node_plan old new (Made position) is = absurd is
node_plan old new Waits is = ap (λ (v : CoreView). v.plan) is.1
node_plan old new Finished is = ap (λ (v : CoreView). v.plan) is.1

initiator_plan : (old : CoreView) (n : ℕ) (i : Initiator) (new : CoreView) (step : CoreStep) → IsInitiatorStep old n i new step → new.plan ≡ old.plan
initiator_plan old n i new (Made position) is = ap (λ (v : CoreView). v.plan) is.after
initiator_plan old n i new Waits is = ap (λ (v : CoreView). v.plan) is.risen.after
initiator_plan old n i new Finished is = ap (λ (v : CoreView). v.plan) is.after

step_plan : (old : CoreView) (n : ℕ) (new : CoreView) (step : CoreStep) (o : Option Initiator) → MatchOption o (IsNodeStep old new step) (λ i. IsInitiatorStep old n i new step) → new.plan ≡ old.plan
step_plan old n new step None is = node_plan old new step is
step_plan old n new step (Some i) is = initiator_plan old n i new step is

turn_plan : (old : CoreView) (n : ℕ) (new : CoreView) → IsTurnOf old n new → new.plan ≡ old.plan
turn_plan old n new (Steps below step is) = step_plan old n new step (slice_get (initiators_of old.plan) n) is
turn_plan old n new (Passes past same) = ap (λ (v : CoreView). v.plan) same

followed_plan : (old : CoreView) (ns : List ℕ) (new : CoreView) → HasFollowed old ns new → new.plan ≡ old.plan
followed_plan old [] new is = ap (λ (v : CoreView). v.plan) is
followed_plan old (n ∷ ns) new is = followed_plan is.0 ns new is.2 ∙ turn_plan old n is.0 is.1

pub scheduled_as_made : (p : Plan) (schedule : List ℕ) (o : Outcome) → IsScheduled p schedule o → IsSoFarAsMade p o
scheduled_as_made p schedule o is =
    let plan : is.core.plan ≡ p = followed_plan (begun_core p) schedule is.core is.followed in
    record {
      sound = subst (λ (q : Plan). IsSound q o.history.entries) plan (subst (IsSound is.core.plan) (sym is.ended.history) is.ended.sound);
      whole = λ complete. whole_of p is.core o plan is.ended complete;
    }

pub net_as_made : (p : Plan) (schedule : List ℕ) (o : Outcome) → IsScheduledBy p schedule o → IsSoFarAsMade p o
net_as_made p schedule o by =
    let cut = by.is.cut in
    record {
      sound = subst (λ (q : Plan). IsSound q o.history.entries) by.world (subst (IsSound by.frame.world) (sym cut.history) cut.sound);
      whole = λ complete. subst (λ (q : Plan). IsWhole q o) by.world (cut.whole (sym cut.complete ∙ complete));
    }
