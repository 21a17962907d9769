use Rattle.decoupled_run.proofs.PassLemmas.{job_let_through}
use Rattle.decoupled_run.proofs.initiator.DecoupledInitiator.pass_sync.Goals as goal

pub invariant_of-self : goal.invariant_of-self
invariant_of-self g c =
    let job = c.self.inside in
    let rest = c.self.invariant in
    let n = g.N.Naming in
    record {
      its_payload = rest.its_payload;
      its_note = rest.its_note;
      has_payload = rest.has_payload;
      has_note = rest.has_note;
      job = job_let_through n.table n.tokens n.frame job.is_direct job.run c.pass_sync.new.self rest.its_payload rest.its_note job.wallet job.grants job.run.syncs rest.job c.pass_sync.ensures;
    }
