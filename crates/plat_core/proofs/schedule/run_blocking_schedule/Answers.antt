use Rattle.std.proofs.Common.{refl, get_or}
use Rattle.std.proofs.lemmas.Result.{IfOk-weaker}
use Rattle.plat_core.specs.Core.{begun_core}
use Rattle.plat_core.specs.Outcome.{IsOutcome, IsScheduled}
use Rattle.plat_core.proofs.OutcomeLemmas.{followed_next, scheduled}
use Rattle.plat_core.proofs.schedule.run_blocking_schedule.Goals as goal

pub loop-number-init : goal.loop-number-init
loop-number-init c = c.in_ok-core.ensures

pub loop-number-preserved : goal.loop-number-preserved
loop-number-preserved c = followed_next (begun_core c.args.plan.now) c.loop-number.core c.take_number.new.core c.args.schedule.now c.loop-number.number-index (get_or c.args.schedule.now c.loop-number.number-index 0) c.loop-number-test.true refl c.loop-number.invariant c.take_number.ensures

pub returns : goal.returns
returns c = IfOk-weaker c.into_outcome.result (IsOutcome c.loop-number.core) (IsScheduled c.args.plan.now c.args.schedule.now) (λ o is. scheduled c.args.plan.now c.args.schedule.now c.loop-number.number-index c.loop-number.core o c.loop-number-test.false c.loop-number.invariant is) c.into_outcome.ensures
