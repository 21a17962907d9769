use Rattle.std.proofs.Common.{◌≡◌, ap, arith, refl, ◌∙◌}
use Rattle.initiator_run.specs.Run.{Run}
use Rattle.initiator_run.proofs.RouteLemmas.{lasting, routed, unrouted}
use Rattle.initiator_run.proofs.RunLemmas.{Keeps-by_refusal, room_for_refusal}
use Rattle.run_outcome.proofs.PlanLemmas.{initiator_within}
use Rattle.initiator_run.proofs.run.InitiatorRun.look_up.Goals as goal

pub route-requires : goal.route-requires
route-requires c = omega (arith, initiator_within c.args.plan.now c.args.self.now.engine.initiator c.requires.way.initiator c.requires.way.mine, c.initiator-initiator.ensures, ap (λ (r : Run). r.engine.initiator) c.self.view_is)

pub latency-latency-requires : goal.latency-latency-requires
latency-latency-requires c = omega (arith, initiator_within c.args.plan.now c.args.self.now.engine.initiator c.requires.way.initiator c.requires.way.mine, c.initiator-initiator.ensures, ap (λ (r : Run). r.engine.initiator) c.self.view_is)

pub refuse-requires-clause-items : goal.refuse-requires-clause-items
refuse-requires-clause-items c = room_for_refusal _ _ c.args.transfer c.requires.way c.requires.next

pub returns-in-None-clause-keeps : goal.returns-in-None-clause-keeps
returns-in-None-clause-keeps c =
    let p = c.args.plan.now in
    let r = c.args.self.now in
    let x = c.args.transfer in
    let n = c.initiator-initiator.result in
    let way = c.requires.way in
    let who : n ≡ r.engine.initiator = c.initiator-initiator.ensures ∙ ap (λ (q : Run). q.engine.initiator) c.self.view_is in
    Keeps-by_refusal p r c.refuse.new.self x c.latency-latency.result c.requires.next c.refuse.ensures.run
    (unrouted p n r.engine.initiator x.address x.address way.initiator who refl way.mine c.in-None.ensures)
    (lasting p n r.engine.initiator x.address x.address c.latency-latency.result way.initiator who refl way.mine c.latency-latency.ensures)

pub returns-in-Some-clause-cases : goal.returns-in-Some-clause-cases
returns-in-Some-clause-cases c =
    let p = c.args.plan.now in
    let r = c.args.self.now in
    let x = c.args.transfer in
    let n = c.initiator-initiator.result in
    let way = c.requires.way in
    let who : n ≡ r.engine.initiator = c.initiator-initiator.ensures ∙ ap (λ (q : Run). q.engine.initiator) c.self.view_is in (
      record {
        next = c.requires.next;
        leads = routed p n r.engine.initiator x.address x.address way.initiator c.in-Some.route who refl way.mine c.in-Some.ensures;
      },
      refl,
    )
