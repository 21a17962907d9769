use Rattle.std.proofs.Common.{ℕ, ap, sym, ◌∙◌}
use Rattle.tlm_model.specs.Route.{later}
use Rattle.decoupled_run.proofs.StepLemmas.{access_made, stepped_job}
use Rattle.decoupled_run.proofs.steps.SteppedInitiator.access.Goals as goal

pub make_next-payload-requires-clause-job : goal.make_next-payload-requires-clause-job
make_next-payload-requires-clause-job g c =
    let n = g.N.Naming in
    let old = c.args.self.now in
    stepped_job n.table n.tokens n.frame old c.args.note c.requires.stepped c.requires.owes c.unwrap-payload.result (sym c.take.ensures.value ∙ c.unwrap-payload.ensures)

pub make_next-payload-requires-clause-reached : goal.make_next-payload-requires-clause-reached
make_next-payload-requires-clause-reached g c = c.requires.reached

pub complete-requires-clause-whole : goal.complete-requires-clause-whole
complete-requires-clause-whole g c = c.make_next-payload.ensures.whole

pub returns : goal.returns
returns g c =
    let n = g.N.Naming in
    let made = c.make_next-payload in
    let next = c.args.next.now in
    access_made n.table n.tokens n.frame c.args.self.now c.args.note c.requires.stepped c.requires.owes c.requires.through next.transfer next.route c.requires.reached made.result.wants made.result.payload made.result.note made.new.wallet made.new.grants made.ensures
    c.complete.new.self c.complete.ensures c.next_txn-txn.result c.next_txn-txn.ensures c.saturating_add-at.result (c.saturating_add-at.ensures ∙ ap (λ (t : ℕ). later t next.route.latency) c.current.ensures) c.owed_after-self.result c.owed_after-self.ensures
