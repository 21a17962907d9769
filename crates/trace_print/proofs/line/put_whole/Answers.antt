use Rattle.trace_print.proofs.Putting.{puts-more}
use Rattle.trace_print.proofs.line.put_whole.Goals as goal

pub returns : goal.returns
returns g c =
    puts-more _ _ _ _ _ c.settle.ensures.puts c.write_whole.ensures
