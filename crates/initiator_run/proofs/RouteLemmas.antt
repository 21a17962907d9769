-- The routes of a plan, by the walks of its initiators.
use Rattle.std.proofs.Common.{◌≡◌, ℕ, Option, Some, None, refl, ap, sym, subst, ◌∙◌, zero, suc, ◌+◌, ◌-◌, false, is_none}
use Rattle.std.specs.Prelude.{slice_get, MatchOption}
use Rattle.tlm_model.specs.Plan.{Plan, Initiator, initiators_of}
use Rattle.tlm_model.specs.Route.{Route as RouteOfModel, latency_of, route_of, Walk, Found, into_memory, into_router, into_window, later, walk, window_of}
use Rattle.tlm_model.specs.declared.platform.MemoryRow.{MemoryRow}
use Rattle.tlm_model.specs.declared.platform.RouterRow.{RouterRow}
use Rattle.tlm_model.specs.declared.platform.Target.{Target}
use Rattle.tlm_model.specs.declared.platform.Target.TheVariants.{Router as RouterTarget, Memory as MemoryTarget}
use Rattle.route_plan.specs.declared.step.Route.{Route}
use Rattle.route_plan.specs.Plans.{walk_at, walk_by}
use Rattle.route_plan.specs.Routes.{route_by, route_seen}
use Rattle.initiator_run.specs.Access.{IsRouteOf, model_route}

-- where a walk ends, it has this route
record IsEndOfWalk (before latency : ℕ) (end : Option RouteOfModel) (route : Route) : Type 0 where
  pub leads : end ≡ Some (model_route route)
  pub before_is : route.before ≡ before
  pub latency_is : route.latency ≡ latency

end_seen : (before latency : ℕ) (end : Option RouteOfModel) (route : Route) → Some route ≡ route_seen before latency end → IsEndOfWalk before latency end route
end_seen before latency None route seen = cc
end_seen before latency (Some r) route seen =
    let same : record { memory = r.memory; offset = r.offset; before = before; latency = latency } ≡ route = cc in
    record {
      leads = ap (λ (x : Route). Some (model_route x)) same;
      before_is = ap (λ (x : Route). x.before) (sym same);
      latency_is = ap (λ (x : Route). x.latency) (sym same);
    }

no_end_seen : (before latency : ℕ) (end : Option RouteOfModel) → None ≡ route_seen before latency end → end ≡ None
no_end_seen before latency None seen = refl
no_end_seen before latency (Some r) seen = cc

route_is : (p : Plan) (i : Initiator) (o : Option Initiator) (a : ℕ) (route : Route) → o ≡ Some i → Some route ≡ route_by (walk_by p.platform o a) → IsRouteOf p i a route
route_is p i o a route mine seen =
    let walk = walk_by p.platform (Some i) a in
    let end = end_seen walk.before walk.latency walk.end route (seen ∙ ap (λ (x : Option Initiator). route_by (walk_by p.platform x a)) mine) in
    record { leads = end.leads; before = end.before_is; latency = end.latency_is }

-- what is said of the initiator with a number, which is there
at_number : (p : Plan) (Q : Initiator → Type 0) (n : ℕ) (i : Initiator) → slice_get (initiators_of p) n ≡ Some i → Q i → MatchOption (slice_get (initiators_of p) n) ⊥ Q
at_number p Q n i mine is = subst (λ (o : Option Initiator). MatchOption o ⊥ Q) (sym mine) is

-- the route that is found for an address
pub routed : (p : Plan) (n m a b : ℕ) (i : Initiator) (route : Route) → n ≡ m → a ≡ b → slice_get (initiators_of p) m ≡ Some i → Some route ≡ route_by (walk_at p n a)
    → MatchOption (slice_get (initiators_of p) m) ⊥ (λ i. IsRouteOf p i b route)
routed p n m a b i route who place mine seen =
    at_number p (λ (x : Initiator). IsRouteOf p x b route) m i mine
    (subst (λ (x : ℕ). IsRouteOf p i x route) place (route_is p i (slice_get (initiators_of p) n) a route (ap (slice_get (initiators_of p)) who ∙ mine) seen))

-- an address for which none is found
pub unrouted : (p : Plan) (n m a b : ℕ) (i : Initiator) → n ≡ m → a ≡ b → slice_get (initiators_of p) m ≡ Some i → None ≡ route_by (walk_at p n a)
    → MatchOption (slice_get (initiators_of p) m) ⊥ (λ i. route_of p.platform i b ≡ None)
unrouted p n m a b i who place mine seen =
    let walk = walk_by p.platform (Some i) a in
    let is : slice_get (initiators_of p) n ≡ Some i = ap (slice_get (initiators_of p)) who ∙ mine in
    at_number p (λ (x : Initiator). route_of p.platform x b ≡ None) m i mine
    (subst (λ (x : ℕ). route_of p.platform i x ≡ None) place (no_end_seen walk.before walk.latency walk.end (seen ∙ ap (λ (x : Option Initiator). route_by (walk_by p.platform x a)) is)))

-- the latency of a walk
pub lasting : (p : Plan) (n m a b by : ℕ) (i : Initiator) → n ≡ m → a ≡ b → slice_get (initiators_of p) m ≡ Some i → by ≡ (walk_at p n a).latency
    → MatchOption (slice_get (initiators_of p) m) ⊥ (λ i. by ≡ latency_of p.platform i b)
lasting p n m a b by i who place mine is =
    let here : slice_get (initiators_of p) n ≡ Some i = ap (slice_get (initiators_of p)) who ∙ mine in
    at_number p (λ (x : Initiator). by ≡ latency_of p.platform x b) m i mine
    (is ∙ ap (λ (x : Option Initiator). (walk_by p.platform x a).latency) here ∙ ap (latency_of p.platform i) place)

into_some : (p : Plan) (o : Option MemoryRow) (m a b : ℕ) (route : RouteOfModel) → (into_memory o m a b).end ≡ Some route → (m ≡ route.memory) × (is_none o ≡ false)
into_some p None m a b route is = cc
into_some p (Some row) m a b route is =
    let same : record { memory = m; offset = a } ≡ route = cc in
    (ap (λ (r : RouteOfModel). r.memory) same, refl)

window_memory : (p : Plan) (r : ℕ) (f : Option Found) (a b : ℕ) (next : Target → ℕ → ℕ → Walk) (route : RouteOfModel) → ((t : Target) (x y : ℕ) → (next t x y).end ≡ Some route → is_none (slice_get p.platform.memories route.memory) ≡ false) → (into_window p.platform r f a b next).end ≡ Some route → is_none (slice_get p.platform.memories route.memory) ≡ false
window_memory p r None a b next route each is = cc
window_memory p r (Some f) a b next route each is = each f.window.to (a - f.window.first + f.window.base) b is

router_memory : (p : Plan) (r : ℕ) (o : Option RouterRow) (a b : ℕ) (next : Target → ℕ → ℕ → Walk) (route : RouteOfModel) → ((t : Target) (x y : ℕ) → (next t x y).end ≡ Some route → is_none (slice_get p.platform.memories route.memory) ≡ false) → (into_router p.platform r o a b next).end ≡ Some route → is_none (slice_get p.platform.memories route.memory) ≡ false
router_memory p r None a b next route each is = cc
router_memory p r (Some row) a b next route each is = window_memory p r (window_of 0 row.windows a) a (later b row.latency) next route each is

pub walk_memory : (p : Plan) (n : ℕ) (t : Target) (a b : ℕ) (route : RouteOfModel) → (walk n p.platform t a b).end ≡ Some route → is_none (slice_get p.platform.memories route.memory) ≡ false
walk_memory p zero t a b route is = cc
walk_memory p (suc n) (MemoryTarget m) a b route is =
    let both = into_some p (slice_get p.platform.memories m) m a b route is in
    ap (λ (x : ℕ). is_none (slice_get p.platform.memories x)) (sym both.0) ∙ both.1
walk_memory p (suc n) (RouterTarget r) a b route is =
    router_memory p r (slice_get p.platform.routers r) a b (λ t x y. walk n p.platform t x y) route (λ t x y. walk_memory p n t x y route) is
