use Rattle.trace_print.proofs.SameHistories.{names-histories}
use Rattle.trace_print.proofs.laws.reports_name_histories.Goals as goal

pub returns : goal.returns
returns c = names-histories
