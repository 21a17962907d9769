use Rattle.joined_traffic.proofs.Growing.{gate_has_one_grant}
use Rattle.joined_traffic.proofs.grant_laws.gates_have_one_grant.Goals as goal

pub returns : goal.returns
returns c = gate_has_one_grant
