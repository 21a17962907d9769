use Rattle.std.proofs.Common.{◌∷◌, []}
use Rattle.std.specs.Prelude.{codes}
use Rattle.std.specs.Fmt.{decimal}
use Rattle.trace_print.proofs.TextLemmas.{last-of-5}
use Rattle.trace_print.proofs.Putting.{puts-as, puts-more}
use Rattle.trace_print.proofs.memories.put_size.Goals as goal

pub returns : goal.returns
returns g c =
    let row = c.args.row.now in
    let name = rw c.as_text.ensures at c.put_text.ensures in
    puts-as _ _ _ _ (puts-more _ _ _ _ _ c.put.ensures (puts-more _ _ _ _ _ name (puts-more _ _ _ _ _ c.put-2.ensures (puts-more _ _ _ _ _ c.put_number.ensures c.end_line.ensures))))
    (last-of-5 (codes "memory ") row.name (codes " ") (decimal row.traits.size) (10 ∷ []))
