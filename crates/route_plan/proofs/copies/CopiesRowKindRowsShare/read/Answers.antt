use Rattle.std.proofs.Common.{Ok, subst, ap, ◌∙◌}
use Rattle.platform_model.specs.Reading.{Gives}
use Rattle.platform_shape.proofs.CopyLemmas.{rows_from-itself}
use Rattle.route_plan.proofs.copies.CopiesRowKindRowsShare.read.Goals as goal

pub returns : goal.returns
returns c = subst (λ read. Gives c.rows.result read) (rows_from-itself 0 c.as_slice.result.now ∙ ap Ok c.as_slice.ensures) c.rows.ensures.read
