use Rattle.trace_print.proofs.SameEntries.{names-entries}
use Rattle.trace_print.proofs.laws.lines_name_entries.Goals as goal

pub returns : goal.returns
returns c = names-entries
