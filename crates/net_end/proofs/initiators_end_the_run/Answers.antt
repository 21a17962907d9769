use Rattle.net_end.proofs.Finishing.{initiators_end}
use Rattle.net_end.proofs.initiators_end_the_run.Goals as goal

pub returns : goal.returns
returns c = initiators_end
