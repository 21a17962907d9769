use Rattle.std.proofs.Common.{◌≡◌}
use Rattle.std.proofs.lemmas.List.{append-nil}
use Rattle.tlm_types.specs.Entries.{head_of}
use Rattle.trace_print.proofs.EntryLemmas.{entry-text-is}
use Rattle.trace_print.proofs.HopLemmas.{object-is}
use Rattle.trace_print.proofs.Putting.{puts-as, puts-more}
use Rattle.trace_print.proofs.entries.put_entry.Goals as goal

pub returns : goal.returns
returns g c e here ends =
    let found = rw here at c.head.ensures in
    let same : c.head.result ≡ head_of e = cc in
    let front = rw (same, ends, object-is c.args.platform.now e.object) at c.put_head.ensures in
    let whole = puts-as _ _ _ _ (puts-more _ _ _ _ _ front (c.put_what.ensures e here)) (entry-text-is _ _ _ _ e.what) in
    puts-as _ _ _ _ (puts-more _ _ _ _ _ whole c.flush.ensures.puts) (append-nil _)
