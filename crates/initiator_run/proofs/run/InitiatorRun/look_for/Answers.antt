use Rattle.std.proofs.Common.{◌≡◌, ap, arith, refl, sym, subst, ◌∙◌}
use Rattle.initiator_run.specs.Moves.{IsInvalidation}
use Rattle.initiator_run.specs.Run.{Run}
use Rattle.initiator_run.proofs.InvalidationLemmas.{Keeps-passed_over, StepsOnce-invalidated, SyncsOnce-invalidated, fewer_invalidated, finished_invalidated, unfenced_invalidation}
use Rattle.initiator_run.proofs.RouteLemmas.{routed, unrouted}
use Rattle.initiator_run.proofs.RunLemmas.{few_syncs}
use Rattle.run_outcome.proofs.PlanLemmas.{initiator_within}
use Rattle.initiator_run.proofs.run.InitiatorRun.look_for.Goals as goal

pub route-requires : goal.route-requires
route-requires c = omega (arith, initiator_within c.args.plan.now c.args.self.now.engine.initiator c.requires.way.initiator c.requires.way.mine, c.initiator-initiator.ensures, ap (λ (r : Run). r.engine.initiator) c.self.view_is)

pub pass_invalidation-requires : goal.pass_invalidation-requires
pass_invalidation-requires c = record { next = subst IsInvalidation (sym c.requires.next) tt }

pub returns-in-None-clause-keeps : goal.returns-in-None-clause-keeps
returns-in-None-clause-keeps c =
    let p = c.args.plan.now in
    let r = c.args.self.now in
    let n = c.initiator-initiator.result in
    let way = c.requires.way in
    let who : n ≡ r.engine.initiator = c.initiator-initiator.ensures ∙ ap (λ (q : Run). q.engine.initiator) c.self.view_is in
    Keeps-passed_over p r c.pass_invalidation.new.self c.args.address c.args.length c.requires.next c.pass_invalidation.ensures
    (unrouted p n r.engine.initiator c.args.address c.args.address way.initiator who refl way.mine c.in-None.ensures)

pub returns-in-None-clause-syncs : goal.returns-in-None-clause-syncs
returns-in-None-clause-syncs c = SyncsOnce-invalidated c.args.self.now c.pass_invalidation.new.self c.pass_invalidation.ensures (few_syncs c.args.plan.now c.args.self.now c.requires.way)

pub returns-in-None-clause-once : goal.returns-in-None-clause-once
returns-in-None-clause-once c =
    StepsOnce-invalidated c.args.self.now c.pass_invalidation.new.self (unfenced_invalidation c.args.self.now.engine (subst IsInvalidation (sym c.requires.next) tt)) c.pass_invalidation.ensures

pub returns-in-None-clause-cases : goal.returns-in-None-clause-cases
returns-in-None-clause-cases c = (
  fewer_invalidated c.args.self.now c.pass_invalidation.new.self c.args.address c.args.length c.requires.next c.pass_invalidation.ensures,
  finished_invalidated c.args.self.now c.pass_invalidation.new.self c.pass_invalidation.ensures,
)

pub returns-in-Some-clause-cases : goal.returns-in-Some-clause-cases
returns-in-Some-clause-cases c =
    let p = c.args.plan.now in
    let r = c.args.self.now in
    let n = c.initiator-initiator.result in
    let way = c.requires.way in
    let who : n ≡ r.engine.initiator = c.initiator-initiator.ensures ∙ ap (λ (q : Run). q.engine.initiator) c.self.view_is in (
      record {
        address = c.args.address;
        bytes = c.args.length;
        next = c.requires.next;
        leads = routed p n r.engine.initiator c.args.address c.args.address way.initiator c.in-Some.route who refl way.mine c.in-Some.ensures;
        first_is = refl;
        last_is = c.last_byte-last.ensures;
      },
      refl,
    )
