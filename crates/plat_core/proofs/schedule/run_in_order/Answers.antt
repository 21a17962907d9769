use Rattle.std.proofs.Common.{sym, ◌∙◌}
use Rattle.std.proofs.lemmas.Result.{IfOk-weaker}
use Rattle.plat_core.specs.Outcome.{IsOutcome}
use Rattle.run_outcome.specs.Outcome.{IsWhole}
use Rattle.plat_core.proofs.ReportLemmas.{whole_of}
use Rattle.plat_core.proofs.schedule.run_in_order.Goals as goal

pub returns : goal.returns
returns g c =
    IfOk-weaker c.into_outcome.result (IsOutcome c.loop-core.core) (IsWhole c.args.plan.now)
    (λ o is. whole_of c.args.plan.now c.loop-core.core o c.loop-core.invariant is (is.complete ∙ (sym c.has_finished.ensures.all ∙ c.loop-core-test.false)))
    c.into_outcome.ensures
