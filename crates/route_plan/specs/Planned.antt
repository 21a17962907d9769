-- How many entries the scripts of a plan may add to each object, and how many bytes they log.
use Rattle.std.specs.Prelude.{ℕ, ◌+◌, ◌*◌, Bool, true, false, ◌&&◌, ◌==◌, List, length, sum_by, count_by, Option, Some, None, slice_get, if◌then◌else◌}
use Rattle.std.specs.List.{flat_map, list_any}
use Rattle.tlm_types.specs.declared.words.ObjectNo.{ObjectNo}
use Rattle.tlm_types.specs.declared.words.ObjectNo.TheVariants.{Memory as memory_object, Hop, Pool}
use Rattle.tlm_model.specs.declared.platform.MemoryRow.{MemoryRow}
use Rattle.tlm_model.specs.declared.platform.Style.{Style}
use Rattle.tlm_model.specs.declared.platform.Style.TheVariants.{Blocking, Direct, FourPhase}
use Rattle.tlm_model.specs.declared.platform.Target.TheVariants.{Memory}
use Rattle.tlm_model.specs.declared.ask.Ask.{Ask}
use Rattle.tlm_model.specs.declared.ask.Ask.TheVariants.{Access as AnAccess, DebugRead as ADebugRead, Invalidation as AnInvalidation}
use Rattle.tlm_model.specs.Actions.{asks_of}
use Rattle.tlm_model.specs.Plan.{Plan, Initiator, initiators_of}
use Rattle.tlm_model.specs.Route.{Route, route_of, hops_of}
use Rattle.platform_shape.specs.Paths.{has_path, once}

abbrev pub asks_in : Initiator → List Ask
asks_in i = flat_map asks_of i.script

abbrev pub leads_to : Option Route → ℕ → Bool
leads_to None m = false
leads_to (Some r) m = r.memory == m

-- an address of an initiator leads to memory m
abbrev pub is_routed_to : Plan → Initiator → ℕ → ℕ → Bool
is_routed_to p i m a = leads_to (route_of p.platform i a) m

-- each access, debug read and invalidation adds one entry to the memory that it is routed to
abbrev pub at_memory : Plan → Initiator → ℕ → Ask → ℕ
at_memory p i m (AnAccess a n) = once (is_routed_to p i m a)
at_memory p i m (ADebugRead a n) = once (is_routed_to p i m a)
at_memory p i m (AnInvalidation a) = once (is_routed_to p i m a)

abbrev pub by_fourphase : Style → ℕ → ℕ
by_fourphase Blocking n = 0
by_fourphase Direct n = 0
by_fourphase FourPhase n = n

-- a four-phase access adds four entries to each hop that it passes, as far as windows lead
abbrev pub at_hop : Plan → Initiator → ℕ → Ask → ℕ
at_hop p i h (AnAccess a n) = by_fourphase i.row.style (4 * count_by (λ k. k == h) (hops_of p.platform i a))
at_hop p i h (ADebugRead a n) = 0
at_hop p i h (AnInvalidation a) = 0

-- and two to the pool of its initiator, with two more for each hop
abbrev pub at_pool : Plan → Initiator → ℕ → Ask → ℕ
at_pool p i n (AnAccess a m) = if i.number == n then by_fourphase i.row.style (2 + 2 * length (hops_of p.platform i a)) else 0
at_pool p i n (ADebugRead a m) = 0
at_pool p i n (AnInvalidation a) = 0

abbrev pub is_direct : Style → Bool
is_direct Blocking = false
is_direct Direct = true
is_direct FourPhase = false

abbrev pub invalidates : Plan → Initiator → ℕ → Ask → Bool
invalidates p i m (AnAccess a n) = false
invalidates p i m (ADebugRead a n) = false
invalidates p i m (AnInvalidation a) = is_routed_to p i m a

abbrev pub gates_by : Plan → Initiator → ℕ → Option MemoryRow → ℕ
gates_by p i m None = 0
gates_by p i m (Some row) =
    if row.traits.dmi
    then row.traits.gates * (once (is_direct i.row.style && has_path p.platform i.row (Memory m)) + once (list_any (invalidates p i m) (asks_in i)))
    else 0

-- a memory that grants direct access may add an entry for each gate: granted to a direct initiator that has a
-- path to it, and closed by an initiator whose invalidation is routed to it
abbrev pub at_gates : Plan → Initiator → ℕ → ℕ
at_gates p i m = gates_by p i m (slice_get p.platform.memories m)

-- the entries that an initiator may add to an object
unfoldable pub share_of : Plan → Initiator → ObjectNo → ℕ
share_of p i (memory_object m) = sum_by (at_memory p i m) (asks_in i) + at_gates p i m
share_of p i (Hop h) = sum_by (at_hop p i h) (asks_in i)
share_of p i (Pool n) = sum_by (at_pool p i n) (asks_in i)

-- the entries that all initiators may add to an object
unfoldable pub planned_at : Plan → ObjectNo → ℕ
planned_at p o = sum_by (λ i. share_of p i o) (initiators_of p)

abbrev pub logged_at : Plan → Initiator → ℕ → Ask → ℕ
logged_at p i m (AnAccess a n) = n * once (is_routed_to p i m a)
logged_at p i m (ADebugRead a n) = n * once (is_routed_to p i m a)
logged_at p i m (AnInvalidation a) = 0

-- the bytes that an initiator's accesses and debug reads may log at a memory
unfoldable pub logged_share : Plan → Initiator → ℕ → ℕ
logged_share p i m = sum_by (logged_at p i m) (asks_in i)

unfoldable pub logged_bytes : Plan → ℕ → ℕ
logged_bytes p m = sum_by (λ i. logged_share p i m) (initiators_of p)
