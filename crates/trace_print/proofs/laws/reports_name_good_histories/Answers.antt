use Rattle.trace_print.proofs.GoodEntries.{good-told}
use Rattle.trace_print.proofs.GoodNames.{names-own, names-plain}
use Rattle.trace_print.proofs.SameHistories.{names-histories}
use Rattle.trace_print.proofs.laws.reports_name_good_histories.Goals as goal

pub returns : goal.returns
returns c =
    λ p valid h g h_good g_good e.
    let shape = valid.shape in
    names-histories p (names-plain p.platform shape.bounded) (names-own p.platform shape) h g (good-told p valid h h_good) (good-told p valid g g_good) e
