use Rattle.std.proofs.Common.{refl, ap, subst, ◌∙◌}
use Rattle.generic_payload.specs.Payload.{PayloadView}
use Rattle.initiator_run.specs.Run.{Run}
use Rattle.initiator_run.specs.Steps.{StepsOnce}
use Rattle.decoupled_run.proofs.PassLemmas.{job_moved, job_reached, one_value}
use Rattle.decoupled_run.proofs.initiator.DecoupledInitiator.go_on.Goals as goal

pub invariant_of-self : goal.invariant_of-self
invariant_of-self g c =
    let job = c.self.inside in
    let rest = c.self.invariant in
    let n = g.N.Naming in
    let room = c.step.ensures.roomy ∙ ap (λ (x : PayloadView). x.room) (one_value job.payload c.in-Some.payload rest.its_payload c.in-Some.is rest.has_payload) in
    record {
      its_payload = c.step.new.payload;
      its_note = rest.its_note;
      has_payload = refl;
      has_note = rest.has_note;
      job = job_moved n.table n.tokens n.frame job.is_direct c.plan.result.now job.run c.step.new.self rest.its_payload c.step.new.payload rest.its_note job.wallet job.grants c.step.result (c.plan.ensures.plan ∙ c.plan.ensures.world)
          rest.job c.step.ensures.keeps c.step.ensures.once c.step.ensures.cases c.in-Went.is room;
    }

pub invariant_of-self-in-Reached : goal.invariant_of-self-in-Reached
invariant_of-self-in-Reached g c =
    let job = c.self.inside in
    let rest = c.self.invariant in
    let n = g.N.Naming in
    let room = c.step.ensures.roomy ∙ ap (λ (x : PayloadView). x.room) (one_value job.payload c.in-Some.payload rest.its_payload c.in-Some.is rest.has_payload) in
    record {
      its_payload = c.step.new.payload;
      its_note = rest.its_note;
      has_payload = refl;
      has_note = rest.has_note;
      job = job_reached n.table n.tokens n.frame job.is_direct job.run c.step.new.self rest.its_payload c.step.new.payload rest.its_note job.wallet job.grants rest.job c.in-Reached.ensures.cases.1 room;
    }

pub invariant_of-self-in-Invalidates : goal.invariant_of-self-in-Invalidates
invariant_of-self-in-Invalidates g c =
    let job = c.self.inside in
    let rest = c.self.invariant in
    let n = g.N.Naming in
    let room = c.step.ensures.roomy ∙ ap (λ (x : PayloadView). x.room) (one_value job.payload c.in-Some.payload rest.its_payload c.in-Some.is rest.has_payload) in
    record {
      its_payload = c.step.new.payload;
      its_note = rest.its_note;
      has_payload = refl;
      has_note = rest.has_note;
      job = job_reached n.table n.tokens n.frame job.is_direct job.run c.step.new.self rest.its_payload c.step.new.payload rest.its_note job.wallet job.grants rest.job c.in-Invalidates.ensures.cases.1 room;
    }

pub returns-in-Went-clause-number : goal.returns-in-Went-clause-number
returns-in-Went-clause-number g c = c.step.ensures.keeps.initiator ∙ ap (λ (r : Run). r.engine.initiator) c.self.view_is

pub returns-in-Went-clause-once : goal.returns-in-Went-clause-once
returns-in-Went-clause-once g c = subst (λ (r : Run). StepsOnce r.engine c.step.new.self.engine) c.self.view_is c.step.ensures.once

pub returns-in-Reached-clause-number : goal.returns-in-Reached-clause-number
returns-in-Reached-clause-number g c = c.access.ensures.number ∙ (c.step.ensures.keeps.initiator ∙ ap (λ (r : Run). r.engine.initiator) c.self.view_is)

pub returns-in-Reached-clause-once : goal.returns-in-Reached-clause-once
returns-in-Reached-clause-once g c = subst (λ (r : Run). StepsOnce r.engine c.access.new.self.engine) (c.in-Reached.ensures.cases.1 ∙ c.self.view_is) c.access.ensures.once

pub returns-in-Invalidates-clause-number : goal.returns-in-Invalidates-clause-number
returns-in-Invalidates-clause-number g c = c.invalidate.ensures.number ∙ (c.step.ensures.keeps.initiator ∙ ap (λ (r : Run). r.engine.initiator) c.self.view_is)

pub returns-in-Invalidates-clause-once : goal.returns-in-Invalidates-clause-once
returns-in-Invalidates-clause-once g c = subst (λ (r : Run). StepsOnce r.engine c.invalidate.new.self.engine) (c.in-Invalidates.ensures.cases.1 ∙ c.self.view_is) c.invalidate.ensures.once
