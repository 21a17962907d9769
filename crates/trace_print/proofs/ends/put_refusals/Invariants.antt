use Rattle.std.proofs.Common.{take, map}
use Rattle.trace_print.specs.Told.{refused_item_words, text_of}
use Rattle.trace_print.specs.Putting.{Puts, page}
use Rattle.trace_print.proofs.ends.put_refusals.Given as goal

abbrev pub invariant-loop-index : goal.invariant-loop-index
invariant-loop-index g l = Puts (page (g.K.Sink.taken l.initial.out) (g.K.Sink.faults l.initial.out) l.initial.line) (page (g.K.Sink.taken l.out) (g.K.Sink.faults l.out) l.line)
    (text_of (map (refused_item_words l.name) (take l.index l.refused.items)))
