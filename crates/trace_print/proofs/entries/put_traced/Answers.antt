use Rattle.trace_print.proofs.EntryLemmas.{shown-one}
use Rattle.trace_print.proofs.Putting.{puts-as}
use Rattle.trace_print.proofs.entries.put_traced.Goals as goal

pub returns-then-is_shown-clause-puts : goal.returns-then-is_shown-clause-puts
returns-then-is_shown-clause-puts g c e here =
    puts-as _ _ _ _ (c.put_line.ensures.puts e here) (shown-one c.args.names.now.platform c.args.trace e _ (c.is_shown.ensures e here) c.if-is_shown.true)
