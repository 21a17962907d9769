use Rattle.std.proofs.Common.{subst}
use Rattle.trace_print.specs.Writes.{IsPrinted}
use Rattle.trace_print.proofs.Writing.{change}
use Rattle.plan_loads.specs.Totals.{totals_line}
use Rattle.plan_loads.specs.declared.totals.Totals.{Totals}
use Rattle.plan_loads.proofs.Sums.{totals-are, totals-are-small}
use Rattle.tlm_top.proofs.top.print_asked.Goals as goal

pub print_totals-requires-clause-small : goal.print_totals-requires-clause-small
print_totals-requires-clause-small g c = totals-are-small c.args.plan.now c.args.outcome.now c.requires.reportable c.requires.valid

pub returns-in-Gen-clause-printed : goal.returns-in-Gen-clause-printed
returns-in-Gen-clause-printed g c =
    let printed = c.print_totals.ensures.printed in
    rw c.in-Gen.is (subst (λ (t : Totals). IsPrinted c.print_totals.result (change (g.K.Sink.taken c.args.out.now) (g.K.Sink.taken c.print_totals.new.out) (g.K.Sink.faults c.args.out.now) (g.K.Sink.faults c.print_totals.new.out)) (totals_line c.in-Gen.seed t))
    (totals-are c.args.plan.now c.args.outcome.now c.requires.reportable) printed)
