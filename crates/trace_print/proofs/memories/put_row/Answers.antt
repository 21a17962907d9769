use Rattle.trace_print.proofs.StoreLemmas.{row-shown, row-zeros}
use Rattle.trace_print.proofs.Putting.{puts-as, puts-nothing}
use Rattle.trace_print.proofs.memories.put_row.Goals as goal

pub returns-then-is_zero : goal.returns-then-is_zero
returns-then-is_zero g c = puts-as _ _ _ _ (puts-nothing _) (row-zeros c.args.offset c.args.row.now (c.is_zero.ensures.0 c.if-is_zero.true))

pub returns : goal.returns
returns g c =
    puts-as _ _ _ _ c.put_whole.ensures
    (row-shown c.args.offset c.args.row.now (λ zeros. let is = c.is_zero.ensures.1 zeros in let not = c.if-is_zero.false in cc))
