use Rattle.std.proofs.Common.{◌≡◌, take, map}
use Rattle.report_model.specs.Report.{entry_words, traced}
use Rattle.trace_print.specs.Putting.{Puts, page}
use Rattle.trace_print.specs.Told.{text_of}
use Rattle.trace_print.proofs.entries.put_entries.Given as goal

abbrev pub invariant-loop-position : goal.invariant-loop-position
invariant-loop-position g l = (l.reader ≡ l.initial.reader) × (l.names ≡ l.initial.names)
    × Puts (page (g.K.Sink.taken l.initial.out) (g.K.Sink.faults l.initial.out) l.initial.line) (page (g.K.Sink.taken l.out) (g.K.Sink.faults l.out) l.line)
    (text_of (map (entry_words l.initial.names.platform) (traced l.trace (take l.position l.initial.reader.entries))))
