use Rattle.std.proofs.Common.{◌≡◌, ap, arith}
use Rattle.std.proofs.lemmas.List.{with_items_is}
use Rattle.std.specs.Vec.{with_items}
use Rattle.trace_print.specs.LineView.{LineView}
use Rattle.trace_print.proofs.Putting.{puts-adds}
use Rattle.trace_print.proofs.line.put.Goals as goal

pub returns-then-line-bytes : goal.returns-then-line-bytes
returns-then-line-bytes g c =
    let l = c.line.inside in
    let after = c.write_bytes-line-inside.new.bytes in
    let kept : (with_items l.bytes after).items ≡ after = with_items_is l.bytes after (omega (arith, c.write_bytes-line-inside.auto.bytes, c.deref_mut.ensures.len)) in
    let holds = rw c.deref_mut.ensures.value at c.write_bytes-line-inside.ensures.holds in
    puts-adds _ _ _ _ _ _ _ _ _ _ (ap (λ (v : LineView). v.waiting) c.line.view_is) (ap (λ (v : LineView). v.failed) c.line.view_is) kept holds
