use Rattle.part_tests.proofs.WorkedRun.{completing_has_ended}
use Rattle.part_tests.proofs.laws.a_completed_access_has_ended.Goals as goal

pub returns : goal.returns
returns c = completing_has_ended
