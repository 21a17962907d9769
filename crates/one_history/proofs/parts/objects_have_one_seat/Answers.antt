use Rattle.one_history.proofs.Statements.{has_one_seat}
use Rattle.one_history.proofs.parts.objects_have_one_seat.Goals as goal

pub returns : goal.returns
returns g c key s h = has_one_seat g.W.Law.backs key s h.log h.counted h.gated
