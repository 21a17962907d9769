use Rattle.std.proofs.lemmas.Result.{IfOk-weaker}
use Rattle.plat_core.specs.NetOutcome.{IsScheduledBy, IsSoFarAsMade}
use Rattle.plat_core.specs.Outcome.{IsScheduled}
use Rattle.plat_core.proofs.ScheduleLemmas.{net_as_made, scheduled_as_made}
use Rattle.plat_core.proofs.net_schedule.run_schedule.Goals as goal

pub returns-then-can_run-clause-outcome : goal.returns-then-can_run-clause-outcome
returns-then-can_run-clause-outcome g c =
    let p = c.args.plan.now in
    IfOk-weaker c.run_blocking_schedule.result (IsScheduled p c.args.schedule.now) (IsSoFarAsMade p) (scheduled_as_made p c.args.schedule.now) c.run_blocking_schedule.ensures

pub returns-clause-outcome : goal.returns-clause-outcome
returns-clause-outcome g c =
    let p = c.args.plan.now in
    IfOk-weaker c.run_net_schedule.result (IsScheduledBy p c.args.schedule.now) (IsSoFarAsMade p) (net_as_made p c.args.schedule.now) c.run_net_schedule.ensures
