-- Where a walk ends there is a memory.
use Rattle.std.proofs.Common.{◌≡◌, ℕ, zero, suc, ◌<◌, length, Option, Some, None, refl, sym, ap, arith}
use Rattle.std.specs.Prelude.{slice_get}
use Rattle.std.proofs.lemmas.Option.{none-some, same_Some, slice_get_within}
use Rattle.tlm_model.specs.declared.platform.MemoryRow.{MemoryRow}
use Rattle.tlm_model.specs.declared.platform.Platform.{Platform}
use Rattle.tlm_model.specs.declared.platform.RouterRow.{RouterRow}
use Rattle.tlm_model.specs.declared.platform.Target.{Target}
use Rattle.tlm_model.specs.declared.platform.Target.TheVariants.{Router, Memory}
use Rattle.tlm_model.specs.Plan.{Plan, Initiator, initiators_of}
use Rattle.tlm_model.specs.Route.{Found, Route as ModelRoute, into_memory, into_router, into_window, later, walk, window_of}
use Rattle.route_plan.specs.declared.step.Route.{Route}
use Rattle.route_plan.specs.Plans.{walk_at, walk_by}
use Rattle.route_plan.specs.Routes.{route_by, route_seen}

memory_end : (p : Platform) (o : Option MemoryRow) (m a before : ℕ) (r : ModelRoute) → slice_get p.memories m ≡ o → (into_memory o m a before).end ≡ Some r → r.memory < length p.memories
memory_end p None m a before r is h = absurd (none-some r h)
memory_end p (Some row) m a before r is h =
    let there : m < length p.memories = slice_get_within p.memories m row is in
    let same : m ≡ r.memory = ap (λ (x : ModelRoute). x.memory) (same_Some (record { memory = m; offset = a }) r h) in
    omega (arith, there, same)

window_end : (k : ℕ) (p : Platform) (q a before : ℕ) (o : Option Found) (r : ModelRoute) → ((t : Target) (b c : ℕ) → (walk k p t b c).end ≡ Some r → r.memory < length p.memories)
    → (into_window p q o a before (λ t b c. walk k p t b c)).end ≡ Some r → r.memory < length p.memories
window_end k p q a before None r next h = absurd (none-some r h)
window_end k p q a before (Some f) r next h = next _ _ _ h

router_end : (k : ℕ) (p : Platform) (q a before : ℕ) (o : Option RouterRow) (r : ModelRoute) → ((t : Target) (b c : ℕ) → (walk k p t b c).end ≡ Some r → r.memory < length p.memories)
    → (into_router p q o a before (λ t b c. walk k p t b c)).end ≡ Some r → r.memory < length p.memories
router_end k p q a before None r next h = absurd (none-some r h)
router_end k p q a before (Some row) r next h = window_end k p q a (later before row.latency) (window_of 0 row.windows a) r next h

walk_end : (k : ℕ) (p : Platform) (t : Target) (a before : ℕ) (r : ModelRoute) → (walk k p t a before).end ≡ Some r → r.memory < length p.memories
walk_end zero p t a before r h = absurd (none-some r h)
walk_end (suc k) p (Memory m) a before r h = memory_end p (slice_get p.memories m) m a before r refl h
walk_end (suc k) p (Router q) a before r h = router_end k p q a before (slice_get p.routers q) r (λ t b c e. walk_end k p t b c r e) h

initiator_end : (p : Platform) (o : Option Initiator) (a : ℕ) (r : ModelRoute) → (walk_by p o a).end ≡ Some r → r.memory < length p.memories
initiator_end p None a r h = absurd (none-some r h)
initiator_end p (Some i) a r h = walk_end 9 p i.row.bind a 0 r h

route_end : (before latency : ℕ) (end : Option ModelRoute) (route : Route) (n : ℕ) → ((r : ModelRoute) → end ≡ Some r → r.memory < n) → Some route ≡ route_seen before latency end → route.memory < n
route_end before latency None route n ends h = absurd (none-some route (sym h))
route_end before latency (Some r) route n ends h =
    let same : r.memory ≡ route.memory = ap (λ (x : Route). x.memory) (same_Some (record { memory = r.memory; offset = r.offset; before = before; latency = latency }) route (sym h)) in
    let there : r.memory < n = ends r refl in
    omega (arith, same, there)

-- a route leads to a memory of the plan
pub leads_to_memory : (p : Plan) (who a : ℕ) (route : Route) → Some route ≡ route_by (walk_at p who a) → route.memory < length p.platform.memories
leads_to_memory p who a route h =
    let w = walk_at p who a in
    route_end w.before w.latency w.end route (length p.platform.memories) (λ r e. initiator_end p.platform (slice_get (initiators_of p) who) a r e) h
