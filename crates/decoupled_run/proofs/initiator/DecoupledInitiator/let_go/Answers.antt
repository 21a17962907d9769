use Rattle.std.proofs.Common.{◌<◌, length, subst}
use Rattle.initiator_run.specs.Run.{Run}
use Rattle.run_outcome.proofs.PlanLemmas.{initiator_within}
use Rattle.decoupled_run.proofs.initiator.DecoupledInitiator.let_go.Goals as goal

pub returns : goal.returns
returns g c =
    let p = g.N.Naming.frame.world in
    let job = c.self.invariant.job.is.is in
    subst (λ (r : Run). r.engine.initiator < length p.platform.initiators) c.self.view_is (initiator_within p c.self.inside.run.engine.initiator job.initiator job.is)
