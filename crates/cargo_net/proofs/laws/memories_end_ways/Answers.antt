use Rattle.cargo_net.proofs.AskedLemmas.{memories_end}
use Rattle.cargo_net.proofs.laws.memories_end_ways.Goals as goal

pub returns : goal.returns
returns c = memories_end
