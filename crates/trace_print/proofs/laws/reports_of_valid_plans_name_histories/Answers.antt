use Rattle.trace_print.proofs.GoodNames.{names-own, names-plain}
use Rattle.trace_print.proofs.SameHistories.{names-histories}
use Rattle.trace_print.proofs.laws.reports_of_valid_plans_name_histories.Goals as goal

pub returns : goal.returns
returns c =
    λ p valid h g t u e.
    let shape = valid.shape in
    names-histories p (names-plain p.platform shape.bounded) (names-own p.platform shape) h g t u e
