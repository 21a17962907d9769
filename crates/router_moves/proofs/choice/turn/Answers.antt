use Rattle.std.proofs.Common.{◌≡◌, ◌<◌, ℕ, length, Some, None, refl, sym, ap, ◌∙◌, subst, Option}
use Rattle.tlm_model.specs.Plan.{Plan}
use Rattle.tlm_model.specs.Route.{window_hop}
use Rattle.router_moves.specs.Items.{way_of}
use Rattle.router_moves.specs.declared.items.WayBehind.{WayBehind}
use Rattle.router_moves.proofs.choice.turn.Goals as goal

-- what is behind the window that has an address, by the net's plan
way_there : (net world : Plan) (router a b : ℕ) (o : Option WayBehind) → net ≡ world → b ≡ a → o ≡ way_of net router b → way_of world router a ≡ o
way_there net world router a b o same at made = subst (λ (w : Plan). way_of w router a ≡ o) same (ap (λ (n : ℕ). way_of net router n) (sym at) ∙ sym made)

pub way_behind-requires-clause-router : goal.way_behind-requires-clause-router
way_behind-requires-clause-router g c = subst (λ (q : Plan). c.args.router < length q.platform.routers) (sym c.plan.ensures.world) c.requires.router

pub way_behind-requires-clause-first : goal.way_behind-requires-clause-first
way_behind-requires-clause-first g c = subst (λ (q : Plan). c.args.first ≡ window_hop q.platform c.args.router 0) (sym c.plan.ensures.world) c.requires.first

pub descend-down-requires-clause-router : goal.descend-down-requires-clause-router
descend-down-requires-clause-router g c = c.requires.router

pub descend-down-requires-clause-mode : goal.descend-down-requires-clause-mode
descend-down-requires-clause-mode g c = c.requires.mode

pub descend-down-requires-clause-latency : goal.descend-down-requires-clause-latency
descend-down-requires-clause-latency g c = c.requires.latency

pub descend-down-requires-clause-note : goal.descend-down-requires-clause-note
descend-down-requires-clause-note g c = c.requires.note

pub descend-down-requires-clause-request : goal.descend-down-requires-clause-request
descend-down-requires-clause-request g c = c.requires.request

pub refuse-response-requires-clause-router : goal.refuse-response-requires-clause-router
refuse-response-requires-clause-router g c = c.requires.router

pub refuse-response-requires-clause-latency : goal.refuse-response-requires-clause-latency
refuse-response-requires-clause-latency g c = c.requires.latency

pub refuse-response-requires-clause-request : goal.refuse-response-requires-clause-request
refuse-response-requires-clause-request g c = c.requires.request

pub returns-in-Some-clause-note : goal.returns-in-Some-clause-note
returns-in-Some-clause-note g c = c.descend-down.ensures.note

pub returns-in-Some-clause-knew : goal.returns-in-Some-clause-knew
returns-in-Some-clause-knew g c = c.descend-down.ensures.knew

pub returns-in-Some-clause-below : goal.returns-in-Some-clause-below
returns-in-Some-clause-below g c = λ was. c.descend-down.ensures.below

pub returns-in-None-clause-note : goal.returns-in-None-clause-note
returns-in-None-clause-note g c = c.requires.note

pub returns-in-None-clause-knew : goal.returns-in-None-clause-knew
returns-in-None-clause-knew g c = λ x has. has

pub returns-in-None-clause-below : goal.returns-in-None-clause-below
returns-in-None-clause-below g c = λ was. was

pub descend-down-requires-clause-way : goal.descend-down-requires-clause-way
descend-down-requires-clause-way g c = way_there c.args.net.now g.N.Naming.frame.world c.args.router c.args.request.cargo.baton.payload.address c.address-address.result (Some c.in-Some.way) c.plan.ensures.world c.address-address.ensures c.in-Some.ensures

pub refuse-response-requires-clause-no_way : goal.refuse-response-requires-clause-no_way
refuse-response-requires-clause-no_way g c = way_there c.args.net.now g.N.Naming.frame.world c.args.router c.args.request.cargo.baton.payload.address c.address-address.result None c.plan.ensures.world c.address-address.ensures c.in-None.ensures

pub returns-in-Some-clause-turned : goal.returns-in-Some-clause-turned
returns-in-Some-clause-turned g c =
    let e = c.descend-down.ensures in
    let is = way_there c.args.net.now g.N.Naming.frame.world c.args.router c.args.request.cargo.baton.payload.address c.address-address.result (Some c.in-Some.way) c.plan.ensures.world c.address-address.ensures c.in-Some.ensures in
    ((c.in-Some.way, is, e.held.2), e.held.0, e.held.1, e.due, e.down, e.look)

pub returns-in-None-clause-turned : goal.returns-in-None-clause-turned
returns-in-None-clause-turned g c = (way_there c.args.net.now g.N.Naming.frame.world c.args.router c.args.request.cargo.baton.payload.address c.address-address.result None c.plan.ensures.world c.address-address.ensures c.in-None.ensures, c.refuse-response.ensures.refused, refl)

pub returns-in-Some-clause-adds : goal.returns-in-Some-clause-adds
returns-in-Some-clause-adds g c = c.descend-down.ensures.adds

pub returns-in-None-clause-adds : goal.returns-in-None-clause-adds
returns-in-None-clause-adds g c = tt
