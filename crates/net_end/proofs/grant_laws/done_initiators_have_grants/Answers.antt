use Rattle.net_end.proofs.Wholes.{done_has_grants}
use Rattle.net_end.proofs.grant_laws.done_initiators_have_grants.Goals as goal

pub returns : goal.returns
returns c = done_has_grants
