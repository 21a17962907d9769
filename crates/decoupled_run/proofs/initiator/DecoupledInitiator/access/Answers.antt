use Rattle.std.proofs.Common.{◌≡◌, ℕ, refl, ap, sym, subst, ◌∙◌}
use Rattle.tlm_model.specs.Route.{later}
use Rattle.initiator_run.specs.Moves.{HasReached}
use Rattle.initiator_run.specs.Run.{Run}
use Rattle.initiator_run.specs.Steps.{StepsOnce}
use Rattle.initiator_run.proofs.OnceLemmas.{StepsOnce-by_access}
use Rattle.decoupled_run.specs.Job.{goes_direct}
use Rattle.decoupled_run.proofs.MoveLemmas.{left_as, number_past}
use Rattle.decoupled_run.proofs.PassLemmas.{job_at_rest}
use Rattle.decoupled_run.proofs.initiator.DecoupledInitiator.access.Goals as goal

pub make_next-payload-requires-clause-job : goal.make_next-payload-requires-clause-job
make_next-payload-requires-clause-job g c =
    let n = g.N.Naming in
    let old = c.self.inside in
    job_at_rest n.table n.tokens n.frame old.is_direct old.run old.payload c.unwrap-payload.result old.note c.unwrap-note.result old.wallet old.grants c.self.invariant (sym c.take.ensures.value ∙ c.unwrap-payload.ensures) (sym c.take-2.ensures.value ∙ c.unwrap-note.ensures)

pub make_next-payload-requires-clause-reached : goal.make_next-payload-requires-clause-reached
make_next-payload-requires-clause-reached g c =
    let next = c.args.next.now in
    subst (λ (r : Run). HasReached g.N.Naming.frame.world r next.transfer next.route) (sym c.self.view_is) c.requires

pub complete-requires-clause-whole : goal.complete-requires-clause-whole
complete-requires-clause-whole g c = c.make_next-payload.ensures.whole

pub ask_after-note-requires-clause-left : goal.ask_after-note-requires-clause-left
ask_after-note-requires-clause-left g c =
    let old = c.self.inside in
    let next = c.args.next.now in
    let made = c.make_next-payload in
    left_as made.result.wants g.N.Naming.frame next.transfer next.route old.run c.complete.new.self c.next_txn-txn.result c.saturating_add-granted_at.result made.result.payload.bytes made.result.note.knows made.new.wallet made.new.grants made.ensures.left c.next_txn-txn.ensures
    (c.saturating_add-granted_at.ensures ∙ ap (λ (t : ℕ). later t next.route.latency) c.current.ensures) c.complete.ensures

pub invariant_of-self : goal.invariant_of-self
invariant_of-self g c =
    let rest = c.self.invariant in
    let next = c.args.next.now in
    let made = c.make_next-payload in
    let asked = c.ask_after-note in
    let kept : c.complete.new.self.engine.initiator ≡ c.self.inside.run.engine.initiator = number_past next.transfer next.route.latency made.result.payload.bytes c.self.inside.run c.complete.new.self c.complete.ensures in
    record {
      its_payload = made.result.payload;
      its_note = asked.result;
      has_payload = refl;
      has_note = refl;
      job = record {
        note_of = asked.ensures.note;
        wallet_of = asked.ensures.wallet;
        roomy = made.ensures.room;
        styled = rest.job.styled ∙ ap (λ (k : ℕ). goes_direct g.N.Naming.frame.world k) (sym kept);
        is = asked.ensures.ease;
      };
    }

pub returns-clause-number : goal.returns-clause-number
returns-clause-number g c =
    let next = c.args.next.now in
    let made = c.make_next-payload in
    number_past next.transfer next.route.latency made.result.payload.bytes c.self.inside.run c.complete.new.self c.complete.ensures ∙ ap (λ (r : Run). r.engine.initiator) c.self.view_is

pub returns-clause-once : goal.returns-clause-once
returns-clause-once g c =
    let old = c.self.inside.run in
    let next = c.args.next.now in
    let made = c.make_next-payload in
    subst (λ (r : Run). StepsOnce r.engine c.complete.new.self.engine) c.self.view_is (StepsOnce-by_access old c.complete.new.self next.transfer next.route.latency made.result.payload.bytes c.complete.ensures)
