use Rattle.std.proofs.Common.{ap, sym, subst, ◌∙◌}
use Rattle.one_history.specs.Held.{Held}
use Rattle.tlm_types.specs.declared.ends.EndOf.{EndOf}
use Rattle.tlm_types.specs.declared.entry.Content.{Content}
use Rattle.tlm_model.specs.Plan.{Plan}
use Rattle.initiator_run.specs.Run.{Run}
use Rattle.decoupled_run.specs.End.{IsFinished}
use Rattle.decoupled_run.proofs.EndLemmas.{job_finished}
use Rattle.decoupled_run.proofs.PassLemmas.{job_at_rest}
use Rattle.decoupled_run.proofs.initiator.DecoupledInitiator.finish.Goals as goal

pub returns : goal.returns
returns g c =
    let n = g.N.Naming in
    let p : Plan = n.frame.world in
    let old = c.self.inside in
    let rest = c.self.invariant in
    let note : Held Content Plan = c.unwrap.result in
    let job = job_at_rest n.table n.tokens n.frame old.is_direct old.run old.payload rest.its_payload old.note note old.wallet old.grants rest rest.has_payload c.unwrap.ensures in
    let done = job_finished n.table n.tokens n.frame old.is_direct old.run rest.its_payload note old.wallet old.grants job (ap (λ (r : Run). r.finished) c.self.view_is ∙ c.requires) in
    subst (λ (r : Run). IsFinished n.table n.tokens p r.engine.initiator c.into_end.result note old.wallet) c.self.view_is
    (subst (λ (e : EndOf). IsFinished n.table n.tokens p old.run.engine.initiator e note old.wallet) (sym c.into_end.ensures) done)
