-- The latency of a walk, a step at a time.
use Rattle.std.proofs.Common.{◌≡◌, ℕ, suc, Option, Some, None, slice_get, refl, sym, ap, ◌∙◌}
use Rattle.std.proofs.lemmas.Option.{none-some}
use Rattle.tlm_model.specs.declared.platform.MemoryRow.{MemoryRow}
use Rattle.tlm_model.specs.declared.platform.Platform.{Platform}
use Rattle.tlm_model.specs.declared.platform.RouterRow.{RouterRow}
use Rattle.tlm_model.specs.declared.platform.Target.{Target}
use Rattle.tlm_model.specs.declared.platform.Target.TheVariants.{Router, Memory}
use Rattle.tlm_model.specs.Route.{Found, Walk, into_memory, into_router, into_window, later, walk, window_of}
use Rattle.route_plan.specs.declared.step.Step.{Step}
use Rattle.route_plan.specs.Latencies.{last_latency, latency_at, memory_latency, router_latency}
use Rattle.route_plan.specs.Routes.{bound_walk, first_step, next_step, step_from, step_over, step_through, walk_on}
use Rattle.route_plan.proofs.StepLemmas.{started, step_taken}

memory_stop : (o : Option MemoryRow) (m a before : ℕ) → (into_memory o m a before).latency ≡ memory_latency o before
memory_stop None m a before = refl
memory_stop (Some row) m a before = refl

window_stop : (k : ℕ) (p : Platform) (r a before : ℕ) (o : Option Found) → step_over p r a before o ≡ None → (into_window p r o a before (λ t b c. walk k p t b c)).latency ≡ before
window_stop k p r a before None h = refl
window_stop k p r a before (Some f) h = absurd (none-some _ (sym h))

router_stop : (k : ℕ) (p : Platform) (r a before : ℕ) (o : Option RouterRow) → step_through p r a before o ≡ None → (into_router p r o a before (λ t b c. walk k p t b c)).latency ≡ router_latency o before
router_stop k p r a before None h = refl
router_stop k p r a before (Some row) h = window_stop k p r a (later before row.latency) (window_of 0 row.windows a) h

target_stop : (k : ℕ) (p : Platform) (t : Target) (a before : ℕ) → step_from p t a before ≡ None → (walk (suc k) p t a before).latency ≡ latency_at p t before
target_stop k p (Memory m) a before h = memory_stop (slice_get p.memories m) m a before
target_stop k p (Router r) a before h = router_stop k p r a before (slice_get p.routers r) h

-- where no step comes next, the walk stops
pub latency_stopped : (k n : ℕ) (p : Platform) (s : Step) → n ≡ suc k → next_step p s ≡ None → (walk_on n p s).latency ≡ last_latency p s
latency_stopped k n p s same h = ap (λ (x : ℕ). (walk_on x p s).latency) same ∙ target_stop k p s.target s.address s.before h

-- a walk has the latency of what follows its next step
pub latency_taken : (k n : ℕ) (p : Platform) (s s' : Step) → n ≡ suc k → next_step p s ≡ Some s' → (walk_on n p s).latency ≡ (walk_on k p s').latency
latency_taken k n p s s' same h = ap (λ (x : ℕ). (walk_on x p s).latency) same ∙ ap (λ (w : Walk). w.latency) (step_taken k p s s' h)

pub latency_started : (p : Platform) (n a : ℕ) (s : Step) → Some s ≡ first_step (slice_get p.initiators n) n a → (bound_walk p n a).latency ≡ (walk_on 9 p s).latency
latency_started p n a s h = ap (λ (w : Walk). w.latency) (started p n a s h)
