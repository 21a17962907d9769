use Rattle.flow_check.proofs.WrongHistories.{kept_wrong}
use Rattle.flow_check.proofs.wrong.last_release_frees.Goals as goal

pub returns : goal.returns
returns c = kept_wrong
