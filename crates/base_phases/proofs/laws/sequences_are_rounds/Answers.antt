use Rattle.base_phases.proofs.WalkLemmas.{whole_round}
use Rattle.base_phases.proofs.laws.sequences_are_rounds.Goals as goal

pub returns : goal.returns
returns c = whole_round
