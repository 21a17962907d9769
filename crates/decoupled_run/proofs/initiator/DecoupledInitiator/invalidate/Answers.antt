use Rattle.std.proofs.Common.{ℕ, refl, ap, sym, subst, ◌∙◌}
use Rattle.initiator_run.specs.Moves.{HasToInvalidate}
use Rattle.initiator_run.specs.Run.{Run}
use Rattle.initiator_run.specs.Steps.{StepsOnce}
use Rattle.initiator_run.proofs.InvalidationLemmas.{StepsOnce-invalidated, initiator_invalidated, is_invalidation, unfenced_invalidation}
use Rattle.decoupled_run.specs.Job.{goes_direct}
use Rattle.decoupled_run.proofs.InvalidateLemmas.{at_ease_with, can_invalidate, memory_there, roomy_there}
use Rattle.decoupled_run.proofs.MoveLemmas.{none_pass}
use Rattle.decoupled_run.proofs.PassLemmas.{job_at_rest}
use Rattle.decoupled_run.proofs.initiator.DecoupledInitiator.invalidate.Goals as goal

pub invalidate-note-requires-clause-memory : goal.invalidate-note-requires-clause-memory
invalidate-note-requires-clause-memory g c =
    let n = g.N.Naming in
    let old = c.self.inside in
    let reached : HasToInvalidate n.frame.world old.run c.args.next.now = subst (λ (r : Run). HasToInvalidate n.frame.world r c.args.next.now) (sym c.self.view_is) c.requires in
    let out = job_at_rest n.table n.tokens n.frame old.is_direct old.run old.payload c.self.invariant.its_payload old.note c.unwrap-note.result old.wallet old.grants c.self.invariant c.self.invariant.has_payload (sym c.take.ensures.value ∙ c.unwrap-note.ensures) in
    memory_there n.frame old.run c.unwrap-note.result.knows old.wallet old.grants out.is c.args.next.now reached

pub invalidate-note-requires-clause-passage : goal.invalidate-note-requires-clause-passage
invalidate-note-requires-clause-passage g c =
    let n = g.N.Naming in
    let old = c.self.inside in
    let out = job_at_rest n.table n.tokens n.frame old.is_direct old.run old.payload c.self.invariant.its_payload old.note c.unwrap-note.result old.wallet old.grants c.self.invariant c.self.invariant.has_payload (sym c.take.ensures.value ∙ c.unwrap-note.ensures) in
    none_pass n.frame old.run c.unwrap-note.result.knows old.wallet old.grants out.is.is c.next_txn-txn.result (ap (λ x. x.initiator) c.next_txn-txn.ensures)

pub invalidate-note-requires-clause-note : goal.invalidate-note-requires-clause-note
invalidate-note-requires-clause-note g c =
    let n = g.N.Naming in
    let old = c.self.inside in
    (job_at_rest n.table n.tokens n.frame old.is_direct old.run old.payload c.self.invariant.its_payload old.note c.unwrap-note.result old.wallet old.grants c.self.invariant c.self.invariant.has_payload (sym c.take.ensures.value ∙ c.unwrap-note.ensures)).note_of

pub invalidate-note-requires-clause-wallet : goal.invalidate-note-requires-clause-wallet
invalidate-note-requires-clause-wallet g c = c.self.invariant.job.wallet_of

pub invalidate-note-requires-clause-room : goal.invalidate-note-requires-clause-room
invalidate-note-requires-clause-room g c =
    let n = g.N.Naming in
    let old = c.self.inside in
    let reached : HasToInvalidate n.frame.world old.run c.args.next.now = subst (λ (r : Run). HasToInvalidate n.frame.world r c.args.next.now) (sym c.self.view_is) c.requires in
    let out = job_at_rest n.table n.tokens n.frame old.is_direct old.run old.payload c.self.invariant.its_payload old.note c.unwrap-note.result old.wallet old.grants c.self.invariant c.self.invariant.has_payload (sym c.take.ensures.value ∙ c.unwrap-note.ensures) in
    roomy_there n.frame old.run c.unwrap-note.result.knows old.wallet old.grants out.is c.args.next.now reached

pub invalidate-note-requires-clause-tickets : goal.invalidate-note-requires-clause-tickets
invalidate-note-requires-clause-tickets g c =
    let n = g.N.Naming in
    let old = c.self.inside in
    let reached : HasToInvalidate n.frame.world old.run c.args.next.now = subst (λ (r : Run). HasToInvalidate n.frame.world r c.args.next.now) (sym c.self.view_is) c.requires in
    let out = job_at_rest n.table n.tokens n.frame old.is_direct old.run old.payload c.self.invariant.its_payload old.note c.unwrap-note.result old.wallet old.grants c.self.invariant c.self.invariant.has_payload (sym c.take.ensures.value ∙ c.unwrap-note.ensures) in
    can_invalidate n.frame old.run c.unwrap-note.result.knows old.wallet old.grants out.is c.args.next.now reached

pub pass_invalidation-requires : goal.pass_invalidation-requires
pass_invalidation-requires g c =
    let n = g.N.Naming in
    let old = c.self.inside in
    let reached : HasToInvalidate n.frame.world old.run c.args.next.now = subst (λ (r : Run). HasToInvalidate n.frame.world r c.args.next.now) (sym c.self.view_is) c.requires in
    record { next = is_invalidation n.frame.world old.run c.args.next.now reached }

pub invariant_of-self : goal.invariant_of-self
invariant_of-self g c =
    let n = g.N.Naming in
    let old = c.self.inside in
    let rest = c.self.invariant in
    let made = c.invalidate-note in
    let reached : HasToInvalidate n.frame.world old.run c.args.next.now = subst (λ (r : Run). HasToInvalidate n.frame.world r c.args.next.now) (sym c.self.view_is) c.requires in
    let out = job_at_rest n.table n.tokens n.frame old.is_direct old.run old.payload rest.its_payload old.note c.unwrap-note.result old.wallet old.grants rest rest.has_payload (sym c.take.ensures.value ∙ c.unwrap-note.ensures) in
    record {
      its_payload = rest.its_payload;
      its_note = made.result;
      has_payload = rest.has_payload;
      has_note = refl;
      job = record {
        note_of = made.ensures.note;
        wallet_of = made.ensures.wallet;
        roomy = rest.job.roomy;
        styled = rest.job.styled ∙ ap (λ (k : ℕ). goes_direct n.frame.world k) (sym (initiator_invalidated old.run c.pass_invalidation.new.self c.pass_invalidation.ensures));
        is = at_ease_with n.frame old.run c.pass_invalidation.new.self c.unwrap-note.result.knows made.result.knows old.wallet made.new.wallet old.grants out.is c.args.next.now reached c.next_txn-txn.result c.current-at.result c.next_txn-txn.ensures c.current-at.ensures made.ensures.invalidated made.ensures.rooms c.pass_invalidation.ensures;
      };
    }

pub returns-clause-number : goal.returns-clause-number
returns-clause-number g c = initiator_invalidated c.self.inside.run c.pass_invalidation.new.self c.pass_invalidation.ensures ∙ ap (λ (r : Run). r.engine.initiator) c.self.view_is

pub returns-clause-once : goal.returns-clause-once
returns-clause-once g c =
    let n = g.N.Naming in
    let old = c.self.inside in
    let new = c.pass_invalidation.new.self in
    let reached : HasToInvalidate n.frame.world old.run c.args.next.now = subst (λ (r : Run). HasToInvalidate n.frame.world r c.args.next.now) (sym c.self.view_is) c.requires in
    subst (λ (r : Run). StepsOnce r.engine new.engine) c.self.view_is (StepsOnce-invalidated old.run new (unfenced_invalidation old.run.engine (is_invalidation n.frame.world old.run c.args.next.now reached)) c.pass_invalidation.ensures)
