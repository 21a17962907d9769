use Rattle.net_end.proofs.Finishing.{ports_tell_grants}
use Rattle.net_end.proofs.ports_tell_grants.Goals as goal

pub returns : goal.returns
returns c = ports_tell_grants
