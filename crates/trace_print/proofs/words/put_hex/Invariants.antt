use Rattle.std.proofs.Common.{◌-◌, ◌≤◌, length, take}
use Rattle.tlm_model.specs.Text.{hex_of}
use Rattle.trace_print.specs.Putting.{Puts, page}
use Rattle.trace_print.proofs.words.put_hex.Given as goal

abbrev pub invariant-loop-start : goal.invariant-loop-start
invariant-loop-start g l = (l.start ≤ length l.bytes)
    × Puts (page (g.K.Sink.taken l.initial.out) (g.K.Sink.faults l.initial.out) l.initial.line) (page (g.K.Sink.taken l.out) (g.K.Sink.faults l.out) l.line)
    (hex_of (take l.start l.bytes))

abbrev pub decreases-loop-start : goal.decreases-loop-start
decreases-loop-start g l = length l.bytes - l.start
