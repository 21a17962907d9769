-- Where an address leads: an interconnect changes the address (IEEE 1666-2011, clause 14.7).
use Rattle.std.specs.Prelude.{ℕ, zero, suc, ◌+◌, ◌-◌, ◌^◌, min, ◌&&◌, Bool, List, [], ◌∷◌, length, take, sum_by, Option, Some, None, slice_get, if◌then◌else◌, nat_le}
use Rattle.tlm_model.specs.declared.platform.MemoryRow.{MemoryRow}
use Rattle.tlm_model.specs.declared.platform.Platform.{Platform}
use Rattle.tlm_model.specs.declared.platform.RouterRow.{RouterRow}
use Rattle.tlm_model.specs.declared.platform.Target.{Target}
use Rattle.tlm_model.specs.declared.platform.Target.TheVariants.{Router, Memory}
use Rattle.tlm_model.specs.declared.platform.WindowRow.{WindowRow}
use Rattle.tlm_model.specs.Plan.{Initiator}

-- the greatest time, at which sums of times stand still
abbrev pub greatest_time : ℕ
greatest_time = 2 ^ 64 - 1

abbrev pub later : ℕ → ℕ → ℕ
later t n = min (t + n) greatest_time

-- a memory, and an offset there
pub record Route : Type 0 where
  pub memory : ℕ
  pub offset : ℕ

-- A walk: its end, if it doesn't end at a router, the sum of the latencies of the routers visited, the
-- same with the memory's, and the hops that were passed.
pub record Walk : Type 0 where
  pub end : Option Route
  pub before : ℕ
  pub latency : ℕ
  pub hops : List ℕ

abbrev pub window_has : WindowRow → ℕ → Bool
window_has w a = nat_le w.first a && nat_le a w.last

-- a window and its index
pub record Found : Type 0 where
  pub index : ℕ
  pub window : WindowRow

-- the first of these windows that has the address, where they are numbered from n
abbrev pub window_of : ℕ → List WindowRow → ℕ → Option Found
window_of n [] a = None
window_of n (w ∷ ws) a = if window_has w a then Some (record { index = n; window = w }) else window_of (n + 1) ws a

-- The number of a router's window as a hop: the initiators' bindings come first, in order, and then the
-- windows of each router in order.
abbrev pub window_hop : Platform → ℕ → ℕ → ℕ
window_hop p r index = length p.initiators + sum_by (λ (row : RouterRow). length row.windows) (take r p.routers) + index

abbrev pub nowhere : ℕ → Walk
nowhere before = record { end = None; before = before; latency = before; hops = [] }

abbrev pub into_memory : Option MemoryRow → ℕ → ℕ → ℕ → Walk
into_memory None m a before = nowhere before
into_memory (Some row) m a before = record { end = Some (record { memory = m; offset = a }); before = before; latency = later before row.traits.latency; hops = [] }

abbrev pub over_hop : ℕ → Walk → Walk
over_hop h w = record w { hops = h ∷ w.hops }

abbrev pub into_window : Platform → ℕ → Option Found → ℕ → ℕ → (Target → ℕ → ℕ → Walk) → Walk
into_window p r None a before next = nowhere before
into_window p r (Some f) a before next = over_hop (window_hop p r f.index) (next f.window.to (a - f.window.first + f.window.base) before)

abbrev pub into_router : Platform → ℕ → Option RouterRow → ℕ → ℕ → (Target → ℕ → ℕ → Walk) → Walk
into_router p r None a before next = nowhere before
into_router p r (Some row) a before next = into_window p r (window_of 0 row.windows a) a (later before row.latency) next

-- the walk from a target, through at most k components
abbrev pub walk : ℕ → Platform → Target → ℕ → ℕ → Walk
walk zero p t a before = nowhere before
walk (suc k) p (Memory m) a before = into_memory (slice_get p.memories m) m a before
walk (suc k) p (Router r) a before = into_router p r (slice_get p.routers r) a before (λ t b c. walk k p t b c)

-- the walk of an address of an initiator: at most 8 routers and a memory
abbrev pub walk_of : Platform → Initiator → ℕ → Walk
walk_of p i a = over_hop i.number (walk 9 p i.row.bind a 0)

abbrev pub route_of : Platform → Initiator → ℕ → Option Route
route_of p i a = (walk_of p i a).end

abbrev pub hops_of : Platform → Initiator → ℕ → List ℕ
hops_of p i a = (walk_of p i a).hops

abbrev pub before_of : Platform → Initiator → ℕ → ℕ
before_of p i a = (walk_of p i a).before

abbrev pub latency_of : Platform → Initiator → ℕ → ℕ
latency_of p i a = (walk_of p i a).latency
