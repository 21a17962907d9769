use Rattle.port_model.proofs.Starts.{pause_passed}
use Rattle.port_model.proofs.pauses_are_passed.Goals as goal

pub returns : goal.returns
returns c = pause_passed
