use Rattle.report_model.specs.Report.{phase_word}
use Rattle.trace_print.proofs.EntryLemmas.{call-words}
use Rattle.trace_print.proofs.Putting.{puts-as, puts-more}
use Rattle.trace_print.proofs.entries.put_call.Goals as goal

pub returns : goal.returns
returns g c =
    let text = rw c.phase_text.ensures at c.put_text.ensures in
    puts-as _ _ _ _ (puts-more _ _ _ _ _ text (puts-more _ _ _ _ _ c.put.ensures c.put_sync.ensures)) (call-words (phase_word c.args.phase) c.args.answer)
