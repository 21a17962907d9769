use Rattle.std.proofs.Common.{take}
use Rattle.trace_print.specs.Told.{stores_lines, text_of}
use Rattle.trace_print.specs.Putting.{Puts, page}
use Rattle.trace_print.proofs.memories.put_memories.Given as goal

abbrev pub invariant-loop-number : goal.invariant-loop-number
invariant-loop-number g l = Puts (page (g.K.Sink.taken l.initial.out) (g.K.Sink.faults l.initial.out) l.initial.line) (page (g.K.Sink.taken l.out) (g.K.Sink.faults l.out) l.line)
    (text_of (stores_lines (take l.number l.rows) (take l.number l.stores)))
