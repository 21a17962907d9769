-- A core over a net knows what it knew before a step.
use Rattle.std.proofs.Common.{◌≡◌, ℕ, List, [], ◌∷◌, sym, ap, subst, inl, inr}
use Rattle.atomic_table.specs.Seated.{TableId}
use Rattle.view_lists.specs.Lists.{Within}
use Rattle.view_lists.proofs.Members.{has_left}
use Rattle.one_history.specs.declared.entry.Entry.{Entry as HistoryEntry}
use Rattle.one_history.specs.declared.view.Frame.{Frame}
use Rattle.tlm_types.specs.declared.entry.Content.{Content}
use Rattle.tlm_model.specs.Plan.{Plan}
use Rattle.plat_core.specs.declared.steps.CoreStep.{CoreStep}
use Rattle.plat_core.specs.declared.steps.CoreStep.TheVariants.{Made, Waits, Finished}
use Rattle.plat_core.specs.NetCore.{IsNetStep, NetView, known_in}
use Rattle.plat_core.specs.NetOutcome.{GoesOnFrom}

same_goes_on : (known now : List (HistoryEntry Content)) → now ≡ known → Within known now
same_goes_on known now same = subst (Within known) (sym same) (λ e has. has)

pub step_goes_on : (table tokens : TableId) (frame : Frame Plan) (old : NetView) (n : ℕ) (new : NetView) (step : CoreStep) → IsNetStep table tokens frame old n new step → GoesOnFrom old new
step_goes_on table tokens frame old n new (Made position) is = subst (Within (known_in old)) (sym is.after) (λ e has. has_left (known_in old) (is.entry ∷ []) e has)
step_goes_on table tokens frame old n new Waits is = same_goes_on (known_in old) (known_in new) is.same
step_goes_on table tokens frame old n new Finished is =
    elim is [
      | inl idle ↦ same_goes_on (known_in old) (known_in new) (ap known_in idle.1)
      | inr done ↦ same_goes_on (known_in old) (known_in new) done.same
    ]
