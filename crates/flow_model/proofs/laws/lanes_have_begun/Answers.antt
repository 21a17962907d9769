use Rattle.flow_model.proofs.LifeLemmas.{lanes_begun}
use Rattle.flow_model.proofs.laws.lanes_have_begun.Goals as goal

pub returns : goal.returns
returns c = lanes_begun
