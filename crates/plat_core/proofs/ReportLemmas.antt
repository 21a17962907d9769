-- What a report takes of a whole outcome.
use Rattle.std.proofs.Common.{◌≡◌, ℕ, zero, suc, ◌<◌, List, [], ◌∷◌, length, Some, Bool, true, ap, sym, subst, ◌∙◌, arith}
use Rattle.std.specs.Prelude.{slice_get}
use Rattle.tlm_types.specs.declared.entry.Entry.{Entry}
use Rattle.tlm_model.specs.History.{last_store}
use Rattle.tlm_model.specs.Plan.{Plan}
use Rattle.report_model.specs.Ends.{IsEndOf}
use Rattle.good_history.specs.Good.{IsGood}
use Rattle.run_outcome.specs.declared.outcome.Outcome.{Outcome}
use Rattle.plat_core.specs.Core.{CoreView, all_true}
use Rattle.plat_core.specs.Outcome.{IsOutcome}
use Rattle.run_outcome.specs.Outcome.{IsReportable, IsWhole}
use Rattle.initiator_run.proofs.AnswerLemmas.{and_left, and_right}
use Rattle.run_outcome.proofs.PlanLemmas.{initiator_within}

pub flag_of_all : (flags : List Bool) (n : ℕ) → all_true flags ≡ true → n < length flags → slice_get flags n ≡ Some true
flag_of_all [] n all below = absurd (omega arith)
flag_of_all (b ∷ flags) zero all below = ap (λ (x : Bool). Some x) (and_left b (all_true flags) all)
flag_of_all (b ∷ flags) (suc n) all below = flag_of_all flags n (and_right b (all_true flags) all) (omega arith)

-- an outcome where all initiators have finished
reported_of : (core : CoreView) (o : Outcome) → IsOutcome core o → o.complete ≡ true → IsReportable core.plan o
reported_of core o is complete =
    let all : all_true core.finished ≡ true = sym is.complete ∙ complete in
    record {
      scripts = is.scripts;
      memories = is.memories;
      stores = λ m bytes at. is.stores m bytes at ∙ ap (λ (h : List Entry). last_store core.plan.platform h m) (sym is.history);
      initiators = is.initiators;
      ends = λ n i end mine at.
          let there = initiator_within core.plan n i mine in
          subst (λ (h : List Entry). IsEndOf core.plan i h end) (sym is.history) (is.ends n i end (flag_of_all core.finished n all (omega (arith, there, is.flags))) mine at);
    }

-- the history of such an outcome is good
good_of : (core : CoreView) (o : Outcome) → IsOutcome core o → o.complete ≡ true → IsGood core.plan o.history.entries
good_of core o is complete = subst (λ (h : List Entry). IsGood core.plan h) (sym is.history) (is.good (sym is.complete ∙ complete))

-- the outcome of a core whose initiators have all finished
pub whole_of : (p : Plan) (core : CoreView) (o : Outcome) → core.plan ≡ p → IsOutcome core o → o.complete ≡ true → IsWhole p o
whole_of p core o plan is complete = record {
  complete = complete;
  good = subst (λ (x : Plan). IsGood x o.history.entries) plan (good_of core o is complete);
  reportable = subst (λ (x : Plan). IsReportable x o) plan (reported_of core o is complete);
}
