use Rattle.std.proofs.Common.{◌≡◌}
use Rattle.trace_print.specs.Putting.{page}
use Rattle.trace_print.proofs.entries.put_line.Given as goal

abbrev pub invariant-loop-k : goal.invariant-loop-k
invariant-loop-k g l = (l.names ≡ l.initial.names) × (page (g.K.Sink.taken l.out) (g.K.Sink.faults l.out) l.line ≡ page (g.K.Sink.taken l.initial.out) (g.K.Sink.faults l.initial.out) l.initial.line)
