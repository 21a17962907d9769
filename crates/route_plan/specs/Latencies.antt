-- The latency of a walk where it stops.
use Rattle.std.specs.Prelude.{ℕ, Option, Some, None, slice_get}
use Rattle.tlm_model.specs.declared.platform.MemoryRow.{MemoryRow}
use Rattle.tlm_model.specs.declared.platform.Platform.{Platform}
use Rattle.tlm_model.specs.declared.platform.RouterRow.{RouterRow}
use Rattle.tlm_model.specs.declared.platform.Target.{Target}
use Rattle.tlm_model.specs.declared.platform.Target.TheVariants.{Router, Memory}
use Rattle.tlm_model.specs.Route.{later}
use Rattle.route_plan.specs.declared.step.Step.{Step}

abbrev pub memory_latency : Option MemoryRow → ℕ → ℕ
memory_latency None before = before
memory_latency (Some row) before = later before row.traits.latency

abbrev pub router_latency : Option RouterRow → ℕ → ℕ
router_latency None before = before
router_latency (Some row) before = later before row.latency

abbrev pub latency_at : Platform → Target → ℕ → ℕ
latency_at p (Memory m) before = memory_latency (slice_get p.memories m) before
latency_at p (Router r) before = router_latency (slice_get p.routers r) before

-- the latency of a walk that stops where a step leads: a refusing router's counts
abbrev pub last_latency : Platform → Step → ℕ
last_latency p s = latency_at p s.target s.before
