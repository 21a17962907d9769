use Rattle.std.proofs.Common.{sym, subst}
use Rattle.initiator_run.specs.Run.{Run}
use Rattle.decoupled_run.specs.End.{IsFinished as IsDecoupledFinished}
use Rattle.plat_run.specs.Actors.{number_of}
use Rattle.net_end.specs.Leaves.{IsFinished}
use Rattle.decoupled_run.proofs.DoneLemmas.{decoupled_finished}
use Rattle.plat_run.proofs.actor.Actor.finish.Goals as goal

pub returns-in-Decoupled : goal.returns-in-Decoupled
returns-in-Decoupled g c =
    let n = g.N.Naming in
    let p = n.frame.world in
    subst (λ a. IsFinished n.table n.tokens p (number_of a) c.finish.result.0 c.finish.result.2 c.finish.result.1) (sym c.in-Decoupled.is)
    (decoupled_finished n.table n.tokens p c.in-Decoupled.job.value.engine.initiator c.finish.result.0 c.finish.result.2 c.finish.result.1
    (subst (λ (r : Run). IsDecoupledFinished n.table n.tokens p r.engine.initiator c.finish.result.0 c.finish.result.2 c.finish.result.1) c.into_inner.ensures c.finish.ensures))
