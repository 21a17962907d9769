use Rattle.flow_model.proofs.WorkedLogs.{rows}
use Rattle.flow_model.proofs.laws.rows_are_sequences.Goals as goal

pub returns : goal.returns
returns c = rows
