use Rattle.flow_model.specs.Events.{Among}
use Rattle.flow_model.proofs.More.{is_backed_more}
use Rattle.flow_model.proofs.traffic_laws.monotone.Goals as goal

pub returns : goal.returns
returns c = λ w known more f. is_backed_more w (Among known) (Among more) f
