use Rattle.base_phases.proofs.WalkLemmas.{begins_free}
use Rattle.base_phases.proofs.laws.requests_begin_on_a_free_lane.Goals as goal

pub returns : goal.returns
returns c = λ before answer behind walk. begins_free before answer behind walk.0 walk.1
