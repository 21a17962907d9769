use Rattle.joined_traffic.proofs.GateLog.{gives_as_many, gives_no_other}
use Rattle.joined_traffic.proofs.grant_laws.gates_are_given_in_turn.Goals as goal

pub returns : goal.returns
returns c = record { many = gives_as_many; others = gives_no_other }
