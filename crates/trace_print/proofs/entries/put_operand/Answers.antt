use Rattle.trace_print.proofs.EntryLemmas.{no-operand}
use Rattle.trace_print.proofs.Putting.{puts-as, puts-more, puts-nothing}
use Rattle.std.proofs.Common.{sym, ◌∙◌}
use Rattle.trace_print.proofs.entries.put_operand.Goals as goal

pub returns-then-has_operand : goal.returns-then-has_operand
returns-then-has_operand g c = rw (sym c.has_operand.ensures ∙ c.if-has_operand.true) (puts-more _ _ _ _ _ c.put_data.ensures c.put.ensures)

pub returns-else-has_operand : goal.returns-else-has_operand
returns-else-has_operand g c = puts-as _ _ _ _ (puts-nothing _) (sym (no-operand c.args.command c.args.sent.now (sym c.has_operand.ensures ∙ c.if-has_operand.false)))
