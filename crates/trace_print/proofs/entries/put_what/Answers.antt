use Rattle.std.proofs.Common.{◌++◌, ap, sym}
use Rattle.std.specs.Prelude.{codes, slice_get}
use Rattle.tlm_model.specs.Text.{line_of}
use Rattle.trace_print.proofs.Putting.{puts-as}
use Rattle.trace_print.proofs.EntryLemmas.{access-is, operand-access-at, plain-at, shown-access-at}
use Rattle.trace_print.proofs.entries.put_what.Goals as goal

pub returns-in-Some : goal.returns-in-Some
returns-in-Some g c e here =
    let a = c.in-Some.access in
    let known = c.in-Some.ensures in
    let facts = rw here at known.facts in
    let enables = rw here at known.enables in
    let read = shown-access-at (slice_get c.args.log.now.entries c.args.index) a.facts a.sent.now a.got.now (sym known.facts) known.sent known.got in
    let bytes = rw (here, ← c.shown.ensures) at read in
    let told = operand-access-at (slice_get c.args.log.now.entries c.args.index) a.facts a.sent.now (sym known.facts) known.sent in
    let operand = rw here at told in
    puts-as _ _ _ _ c.put_access.ensures (ap (λ words. codes " " ++ line_of words) (access-is e.what _ _ _ _ (sym facts) enables (sym operand) (sym bytes)))

pub put_told-requires : goal.put_told-requires
put_told-requires g c = plain-at (slice_get c.args.log.now.entries c.args.index) _ c.in-Some-what.ensures
