use Rattle.flow_model.proofs.TheLaw.{law}
use Rattle.flow_model.proofs.traffic_laws.fourphase_law.Goals as goal

pub returns : goal.returns
returns c = law
