use Rattle.std.proofs.Common.{◌≤◌, subst}
use Rattle.plat_core.specs.Core.{CoreView, progress}
use Rattle.plat_core.proofs.ProgressLemmas.{few_steps}
use Rattle.plat_core.proofs.steps.Core.has_finished.Goals as goal

pub returns-clause-few : goal.returns-clause-few
returns-clause-few c =
    subst (λ (v : CoreView). progress v ≤ 20000000) c.self.view_is
    (few_steps c.self.inside.plan.now c.self.inside.runs.items c.self.inside.regions.items c.self.inside.rounds c.self.inside.made c.self.invariant.0 c.self.invariant.1)
