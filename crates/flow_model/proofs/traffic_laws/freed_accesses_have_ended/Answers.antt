use Rattle.flow_model.proofs.Ended.{ended_law}
use Rattle.flow_model.proofs.traffic_laws.freed_accesses_have_ended.Goals as goal

pub returns : goal.returns
returns c = ended_law
