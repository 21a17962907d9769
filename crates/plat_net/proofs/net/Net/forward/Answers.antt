use Rattle.std.proofs.Common.{◌≡◌, subst, ap, ◌∙◌}
use Rattle.std.specs.Prelude.{IsSome, slice_get}
use Rattle.tlm_model.specs.Plan.{Plan}
use Rattle.flow_model.specs.Platform.{hop_in}
use Rattle.route_plan.specs.Routes.{ends_of}
use Rattle.plat_net.specs.Places.{hop_place, memory_behind}
use Rattle.plat_net.proofs.Forwarding.{answers_same, may_forward, may_same}
use Rattle.plat_net.proofs.Given.{hop_numbered, shape_of}
use Rattle.plat_net.proofs.net.Net.forward.Goals as goal

pub forward-forwarded-requires-clause-may : goal.forward-forwarded-requires-clause-may
forward-forwarded-requires-clause-may g c =
    let num : c.hop.result.now.number ≡ hop_place g.N.Naming.frame.world c.args.hop = hop_numbered c.args.self.now g.N.Naming.frame.world c.args.hop c.hop.result.now c.hop.ensures c.plan.ensures.world in
    let shape = shape_of c.plan.result.now c.args.self.now g.N.Naming.frame.world c.platform.ensures.valid c.plan.ensures.plan c.plan.ensures.world in
    let some = subst (λ (q : Plan). IsSome (slice_get (ends_of q.platform) c.args.hop)) c.plan.ensures.world c.behind-latency.ensures.there in
    let memory = c.behind-latency.ensures.memory ∙ ap (λ (q : Plan). memory_behind q c.args.hop) c.plan.ensures.world in
    let latency : c.behind-latency.result.1 ≡ (hop_in g.N.Naming.frame.world.platform c.args.hop).latency = c.behind-latency.ensures.latency ∙ ap (λ (q : Plan). (hop_in q.platform c.args.hop).latency) c.plan.ensures.world in
    may_same g.N.Naming.frame g.N.Naming.tokens c.args.note.knows.known c.args.cargo c.args.at num memory latency (may_forward g.N.Naming.frame g.N.Naming.tokens c.args.note.knows.known c.plan.ensures.frame shape c.args.hop c.args.cargo c.args.at c.requires.can some)

pub returns-clause-forwarded : goal.returns-clause-forwarded
returns-clause-forwarded g c = λ can.
    let num : c.hop.result.now.number ≡ hop_place g.N.Naming.frame.world c.args.hop = hop_numbered c.args.self.now g.N.Naming.frame.world c.args.hop c.hop.result.now c.hop.ensures c.plan.ensures.world in
    let shape = shape_of c.plan.result.now c.args.self.now g.N.Naming.frame.world c.platform.ensures.valid c.plan.ensures.plan c.plan.ensures.world in
    let some = subst (λ (q : Plan). IsSome (slice_get (ends_of q.platform) c.args.hop)) c.plan.ensures.world c.behind-latency.ensures.there in
    let memory = c.behind-latency.ensures.memory ∙ ap (λ (q : Plan). memory_behind q c.args.hop) c.plan.ensures.world in
    let latency : c.behind-latency.result.1 ≡ (hop_in g.N.Naming.frame.world.platform c.args.hop).latency = c.behind-latency.ensures.latency ∙ ap (λ (q : Plan). (hop_in q.platform c.args.hop).latency) c.plan.ensures.world in
    answers_same g.N.Naming.frame g.N.Naming.tokens c.args.note.knows.known c.args.cargo c.args.at c.args.note.knows c.forward-forwarded.result num memory latency c.forward-forwarded.ensures.forwarded (may_forward g.N.Naming.frame g.N.Naming.tokens c.args.note.knows.known c.plan.ensures.frame shape c.args.hop c.args.cargo c.args.at can some)
