use Rattle.flow_check.proofs.WorkedHistories.{completing_works}
use Rattle.flow_check.proofs.worked.completes_at_once.Goals as goal

pub returns : goal.returns
returns c = completing_works
