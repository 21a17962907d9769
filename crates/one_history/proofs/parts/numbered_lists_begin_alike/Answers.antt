use Rattle.one_history.proofs.Alike.{begin_alike}
use Rattle.one_history.proofs.parts.numbered_lists_begin_alike.Goals as goal

pub returns : goal.returns
returns g c = begin_alike
