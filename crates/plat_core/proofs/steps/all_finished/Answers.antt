use Rattle.std.proofs.Common.{Bool, get_or, take, sym, ap, ◌∙◌}
use Rattle.std.specs.List.{list_all}
use Rattle.run_outcome.proofs.ListLemmas.{take_all}
use Rattle.initiator_run.proofs.AnswerLemmas.{and_true}
use Rattle.std.proofs.lemmas.List.Folds.{list_all-map, list_all_at, list_all_more}
use Rattle.initiator_run.specs.Run.{Run}
use Rattle.plat_core.proofs.steps.all_finished.Goals as goal

pub returns-then-not-has_finished : goal.returns-then-not-has_finished
returns-then-not-has_finished c =
    sym (list_all-map (λ (b : Bool). b) (λ (r : Run). r.finished) c.args.runs.now
    ∙ list_all_at (λ (r : Run). r.finished) c.args.runs.now c.loop-run.run-index c.run-item.result c.loop-run-test.true (ap (λ (r : Run). r.finished) (sym c.run-item.is) ∙ sym c.if-not-has_finished.ensures))

pub loop-run-preserved : goal.loop-run-preserved
loop-run-preserved c =
    list_all_more (λ (r : Run). r.finished) c.args.runs.now c.loop-run.run-index c.run-item.result c.loop-run-test.true
    ∙ and_true (list_all (λ (r : Run). r.finished) (take c.loop-run.run-index c.args.runs.now)) (get_or c.args.runs.now c.loop-run.run-index c.run-item.result).finished c.loop-run.invariant
    (ap (λ (r : Run). r.finished) (sym c.run-item.is) ∙ sym c.if-not-has_finished.ensures)

pub returns : goal.returns
returns c =
    sym (list_all-map (λ (b : Bool). b) (λ (r : Run). r.finished) c.args.runs.now
    ∙ (ap (list_all (λ (r : Run). r.finished)) (sym (take_all c.loop-run.run-index c.args.runs.now c.loop-run-test.false)) ∙ c.loop-run.invariant))
