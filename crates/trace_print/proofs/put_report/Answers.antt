use Rattle.trace_print.proofs.ReportLemmas.{report-is, sizes-of}
use Rattle.trace_print.proofs.Putting.{puts-as, puts-more}
use Rattle.trace_print.proofs.put_report.Goals as goal

pub put_initiators-requires : goal.put_initiators-requires
put_initiators-requires g c =
    let same = c.platform-platform.ensures in
    rw (c.as_slice.ensures, c.as_slice-2.ensures, same) c.requires.reportable.initiators

pub put_memories-requires : goal.put_memories-requires
put_memories-requires g c =
    let same = c.platform-platform.ensures in
    rw (c.as_slice-3.ensures, c.as_slice-4.ensures, same) (sizes-of c.args.names.now c.args.outcome.now c.requires.reportable)

pub returns : goal.returns
returns g c =
    let same = c.platform-platform.ensures in
    let inits = rw (c.as_slice.ensures, c.as_slice-2.ensures, same) at c.put_initiators.ensures in
    let mems = rw (c.as_slice-3.ensures, c.as_slice-4.ensures, same) at c.put_memories.ensures in
    let count = rw c.len.ensures at c.put_count.ensures in
    let entries = c.put_shown.ensures c.args.outcome.now.history c.requires.reader in
    puts-as _ _ _ _ (puts-more _ _ _ _ _ c.put_title.ensures (puts-more _ _ _ _ _ entries (puts-more _ _ _ _ _ inits (puts-more _ _ _ _ _ mems count))))
    (report-is c.args.trace c.args.names.now c.args.outcome.now c.requires.reportable)
