use Rattle.std.proofs.Common.{◌∙◌, ap, sym}
use Rattle.std.proofs.lemmas.List.{append-nil}
use Rattle.tlm_model.specs.Plan.{Plan}
use Rattle.report_model.specs.Report.{report_of}
use Rattle.trace_print.proofs.Putting.{printed-all, printed-part, puts-as, puts-more}
use Rattle.trace_print.proofs.print.Goals as goal

pub returns-clause-printed : goal.returns-clause-printed
returns-clause-printed g c =
    let puts = puts-more _ _ _ _ _ c.put_report.ensures c.flush.ensures.puts in
    printed-all _ _ _ (sym c.has_failed.ensures ∙ c.if-has_failed.false) c.in_ok-line.ensures.0 c.flush.ensures.empty
    (puts-as _ _ _ _ puts (append-nil _ ∙ ap (λ (p : Plan). report_of c.args.trace p c.args.outcome.now.history.entries) c.in_ok-names.ensures))

pub returns-then-has_failed-clause-printed : goal.returns-then-has_failed-clause-printed
returns-then-has_failed-clause-printed g c =
    let puts = puts-more _ _ _ _ _ c.put_report.ensures c.flush.ensures.puts in
    printed-part _ _ _ c.in_ok-line.ensures.1 (sym c.has_failed.ensures ∙ c.if-has_failed.true) c.in_ok-line.ensures.0 (puts-as _ _ _ _ puts (append-nil _ ∙ ap (λ (p : Plan). report_of c.args.trace p c.args.outcome.now.history.entries) c.in_ok-names.ensures))
