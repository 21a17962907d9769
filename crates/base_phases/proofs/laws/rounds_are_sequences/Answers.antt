use Rattle.base_phases.proofs.WalkLemmas.{round_whole}
use Rattle.base_phases.proofs.laws.rounds_are_sequences.Goals as goal

pub returns : goal.returns
returns c = round_whole
