use Rattle.port_model.proofs.Alone.{invalidation_passed}
use Rattle.port_model.proofs.invalidations_are_passed.Goals as goal

pub returns : goal.returns
returns c = invalidation_passed
