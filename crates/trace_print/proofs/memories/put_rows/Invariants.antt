use Rattle.report_model.specs.Report.{rows_from}
use Rattle.trace_print.specs.Told.{text_of}
use Rattle.trace_print.specs.Putting.{Puts, page}
use Rattle.trace_print.proofs.memories.put_rows.Given as goal

abbrev pub invariant-loop-k : goal.invariant-loop-k
invariant-loop-k g l = Puts (page (g.K.Sink.taken l.initial.out) (g.K.Sink.faults l.initial.out) l.initial.line) (page (g.K.Sink.taken l.out) (g.K.Sink.faults l.out) l.line)
    (text_of (rows_from l.k 0 l.bytes))
