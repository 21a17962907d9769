-- The routes of a platform: its windows as they are kept, its hops, and the steps of walks.
use Rattle.std.specs.Prelude.{ℕ, ◌+◌, ◌-◌, List, ◌++◌, map, length, Option, Some, None, slice_get}
use Rattle.std.specs.List.{enumerate_from, flat_map, range_with_len}
use Rattle.addr_router.specs.declared.window.Window.{Window}
use Rattle.platform_model.specs.Windows.{window_at}
use Rattle.tlm_model.specs.declared.platform.InitiatorRow.{InitiatorRow}
use Rattle.tlm_model.specs.declared.platform.Platform.{Platform}
use Rattle.tlm_model.specs.declared.platform.RouterRow.{RouterRow}
use Rattle.tlm_model.specs.declared.platform.Target.{Target}
use Rattle.tlm_model.specs.declared.platform.Target.TheVariants.{Router, Memory}
use Rattle.tlm_model.specs.declared.platform.WindowRow.{WindowRow}
use Rattle.tlm_model.specs.Route.{Found, Walk, later, nowhere, over_hop, walk, window_hop, window_of}
use Rattle.tlm_model.specs.Route as model
use Rattle.route_plan.specs.declared.ends.HopEnds.{HopEnds}
use Rattle.route_plan.specs.declared.ends.Up.TheVariants as up
use Rattle.route_plan.specs.declared.step.Route.{Route}
use Rattle.route_plan.specs.declared.step.Step.{Step}

-- the windows of a router: the port of each is its index
abbrev pub numbered_windows : RouterRow → List Window
numbered_windows r = map (λ (w : ℕ × WindowRow). window_at w.0 w.1) (enumerate_from 0 r.windows)

-- the number as a hop of each router's first window
abbrev pub first_hops : Platform → List ℕ
first_hops p = map (λ r. window_hop p r 0) (range_with_len 0 (length p.routers))

abbrev pub binding_ends : ℕ × InitiatorRow → HopEnds
binding_ends i = record { up = up.Initiator i.0; down = i.1.bind }

abbrev pub window_ends : ℕ → ℕ × WindowRow → HopEnds
window_ends r w = record { up = up.Router r w.0; down = w.1.to }

abbrev pub router_ends : ℕ × RouterRow → List HopEnds
router_ends r = map (window_ends r.0) (enumerate_from 0 r.1.windows)

-- the ends of all hops: the bindings come first, and then the windows of each router
unfoldable pub ends_of : Platform → List HopEnds
ends_of p = map binding_ends (enumerate_from 0 p.initiators) ++ flat_map router_ends (enumerate_from 0 p.routers)

-- the step over the binding of an initiator, if it is there
abbrev pub first_step : Option InitiatorRow → ℕ → ℕ → Option Step
first_step None n a = None
first_step (Some row) n a = Some (record { hop = n; target = row.bind; address = a; before = 0 })

-- the step over a window that was found, out of a router
abbrev pub step_over : Platform → ℕ → ℕ → ℕ → Option Found → Option Step
step_over p r a before None = None
step_over p r a before (Some f) = Some (record { hop = window_hop p r f.index; target = f.window.to; address = a - f.window.first + f.window.base; before = before })

-- the step through a router, which adds its latency
abbrev pub step_through : Platform → ℕ → ℕ → ℕ → Option RouterRow → Option Step
step_through p r a before None = None
step_through p r a before (Some row) = step_over p r a (later before row.latency) (window_of 0 row.windows a)

abbrev pub step_from : Platform → Target → ℕ → ℕ → Option Step
step_from p (Memory m) a before = None
step_from p (Router r) a before = step_through p r a before (slice_get p.routers r)

-- the step that comes next, if one does
abbrev pub next_step : Platform → Step → Option Step
next_step p s = step_from p s.target s.address s.before

-- the walk from where a step leads, through at most k components
abbrev pub walk_on : ℕ → Platform → Step → Walk
walk_on k p s = walk k p s.target s.address s.before

-- the walk of an address by the binding of the initiator with this number, if it is there
abbrev pub row_walk : Platform → ℕ → Option InitiatorRow → ℕ → Walk
row_walk p n None a = nowhere 0
row_walk p n (Some row) a = over_hop n (walk 9 p row.bind a 0)

abbrev pub bound_walk : Platform → ℕ → ℕ → Walk
bound_walk p n a = row_walk p n (slice_get p.initiators n) a

-- where a walk ends, with its latencies
abbrev pub route_seen : ℕ → ℕ → Option model.Route → Option Route
route_seen before latency None = None
route_seen before latency (Some r) = Some (record { memory = r.memory; offset = r.offset; before = before; latency = latency })

abbrev pub route_by : Walk → Option Route
route_by w = route_seen w.before w.latency w.end
