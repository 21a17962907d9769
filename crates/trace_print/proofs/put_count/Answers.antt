use Rattle.std.proofs.Common.{◌∷◌, []}
use Rattle.std.specs.Prelude.{codes}
use Rattle.std.specs.Fmt.{decimal}
use Rattle.trace_print.proofs.TextLemmas.{last-of-3}
use Rattle.trace_print.proofs.Putting.{puts-as, puts-more}
use Rattle.trace_print.proofs.put_count.Goals as goal

pub returns : goal.returns
returns g c =
    puts-as _ _ _ _ (puts-more _ _ _ _ _ c.put.ensures (puts-more _ _ _ _ _ c.put_number.ensures c.end_line.ensures))
    (last-of-3 (codes "end ") (decimal c.args.count) (10 ∷ []))
