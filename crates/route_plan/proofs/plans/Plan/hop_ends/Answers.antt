use Rattle.std.proofs.Common.{◌<◌, subst}
use Rattle.std.specs.Prelude.{IsSome, ◌↔◌}
use Rattle.tlm_model.specs.Plan as model
use Rattle.route_plan.specs.Valid.{hop_count}
use Rattle.route_plan.proofs.NumberLemmas.{ends_are_there}
use Rattle.route_plan.proofs.plans.Plan.hop_ends.Goals as goal

pub returns-clause-there : goal.returns-clause-there
returns-clause-there c =
    subst (λ (plan : model.Plan). IsSome c.hop_ends.result ↔ (c.args.hop < hop_count plan.platform)) c.self.view_is (ends_are_there c.self.inside.routes c.args.hop c.hop_ends.result c.hop_ends.ensures)
