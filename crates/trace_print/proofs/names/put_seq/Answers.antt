use Rattle.std.specs.Prelude.{codes}
use Rattle.std.specs.Fmt.{decimal}
use Rattle.trace_print.proofs.TextLemmas.{last-of-4}
use Rattle.trace_print.proofs.Putting.{puts-as, puts-more}
use Rattle.trace_print.proofs.names.put_seq.Goals as goal

pub returns : goal.returns
returns g c =
    puts-as _ _ _ _ (puts-more _ _ _ _ _ c.put_text.ensures c.put_piece.ensures) (last-of-4 c.args.name.now (codes ".") (decimal c.args.seq) (codes " "))
