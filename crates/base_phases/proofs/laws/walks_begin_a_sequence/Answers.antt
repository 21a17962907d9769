use Rattle.base_phases.proofs.WalkLemmas.{begun}
use Rattle.base_phases.proofs.laws.walks_begin_a_sequence.Goals as goal

pub returns : goal.returns
returns c = λ calls walk once. begun calls walk.0 walk.1 once
