use Rattle.std.proofs.Common.{◌≡◌, ℕ, ◌+◌, ◌-◌, ◌≤◌, Option, Some, None, sym, ◌∙◌, arith}
use Rattle.tlm_model.specs.Plan.{Plan}
use Rattle.route_plan.specs.declared.step.Route.{Route}
use Rattle.route_plan.specs.Valid.{IsValid}
use Rattle.plat_net.specs.Calls.{route_at}
use Rattle.dmi_grants.specs.Ranges.{lifted_at}
use Rattle.dmi_grants.proofs.Lifting.{IsLifted, lifted_is, lifts_at}
use Rattle.dmi_grants.proofs.OnlyWay.{all_addresses}
use Rattle.dmi_grants.proofs.range.addresses.Goals as goal

pub unreachable-requires : goal.unreachable-requires
unreachable-requires c =
    let l = lifts_at c.args.plan.now c.args.who c.args.address c.args.route c.args.first c.args.last c.platform.ensures.valid c.requires.route c.requires.inside.0 c.requires.inside.1 in
    let e : ◌≡◌ {A = Option (ℕ × ℕ)} None (Some l.0) = sym c.in_default.is ∙ c.lift.ensures ∙ l.1 in
    absurd (cc (e))

-- what the range says of the address
so : (plan : Plan) (who a : ℕ) (route : Route) (first last low high : ℕ) (o : Option (ℕ × ℕ)) → IsValid plan → route_at plan who a ≡ Some route → (first ≤ route.offset) × (route.offset ≤ last) → o ≡ lifted_at plan who a (first, last) → o ≡ Some (low, high) → IsLifted (low, high) a route.offset first last
so plan who a route first last low high o valid at inside made is =
    lifted_is (lifted_at plan who a (first, last)) low high a route.offset first last (lifts_at plan who a route first last valid at inside.0 inside.1) (sym is ∙ made)

pub overflow_sub-result : goal.overflow_sub-result
overflow_sub-result c = (so c.args.plan.now c.args.who c.args.address c.args.route c.args.first c.args.last c.in-Some.low c.in-Some.high c.lift.result c.platform.ensures.valid c.requires.route c.requires.inside c.lift.ensures c.in-Some.is).low

pub overflow_sub-result-2 : goal.overflow_sub-result-2
overflow_sub-result-2 c = let f = (so c.args.plan.now c.args.who c.args.address c.args.route c.args.first c.args.last c.in-Some.low c.in-Some.high c.lift.result c.platform.ensures.valid c.requires.route c.requires.inside c.lift.ensures c.in-Some.is).from in omega (arith, f)

pub returns-clause-within : goal.returns-clause-within
returns-clause-within c = let l = so c.args.plan.now c.args.who c.args.address c.args.route c.args.first c.args.last c.in-Some.low c.in-Some.high c.lift.result c.platform.ensures.valid c.requires.route c.requires.inside c.lift.ensures c.in-Some.is in (l.low, l.high)

pub returns-clause-base : goal.returns-clause-base
returns-clause-base c = let f = (so c.args.plan.now c.args.who c.args.address c.args.route c.args.first c.args.last c.in-Some.low c.in-Some.high c.lift.result c.platform.ensures.valid c.requires.route c.requires.inside c.lift.ensures c.in-Some.is).from in omega (arith, f)

pub returns-clause-inside : goal.returns-clause-inside
returns-clause-inside c =
    let l = so c.args.plan.now c.args.who c.args.address c.args.route c.args.first c.args.last c.in-Some.low c.in-Some.high c.lift.result c.platform.ensures.valid c.requires.route c.requires.inside c.lift.ensures c.in-Some.is in
    let f = l.from in
    let t = l.to in
    let a = l.low in
    let b = l.high in
    (omega (arith, f, t, a, b), omega (arith, f, t, a, b))

pub returns-clause-all : goal.returns-clause-all
returns-clause-all c =
    let l = so c.args.plan.now c.args.who c.args.address c.args.route c.args.first c.args.last c.in-Some.low c.in-Some.high c.lift.result c.platform.ensures.valid c.requires.route c.requires.inside c.lift.ensures c.in-Some.is in
    let f = l.from in
    let base : (c.args.route.offset - (c.args.address - c.in-Some.low)) + (c.args.address - c.in-Some.low) ≡ c.args.route.offset = omega (arith, f) in
    all_addresses c.args.plan.now c.args.who c.args.address c.args.first c.args.last c.in-Some.low c.in-Some.high (c.args.route.offset - (c.args.address - c.in-Some.low)) c.args.route c.platform.ensures.valid c.requires.route (sym c.lift.ensures ∙ c.in-Some.is) l.low base
