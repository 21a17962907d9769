use Rattle.std.proofs.Common.{subst}
use Rattle.platform_model.specs.Reading.{Gives}
use Rattle.platform_shape.proofs.CopyLemmas.{rows_from-itself}
use Rattle.route_plan.proofs.copies.copy_shares.Goals as goal

pub returns : goal.returns
returns c = subst (λ read. Gives c.rows.result read) (rows_from-itself 0 c.args.shares.now) c.rows.ensures.read
