-- What is counted of scripts at the objects of a platform.
use Rattle.std.specs.Prelude.{ℕ, ◌+◌, ◌*◌, Bool, false, ◌&&◌, ◌==◌, List, sum_by, Option, Some, None, slice_get}
use Rattle.std.specs.List.{flat_map}
use Rattle.tlm_types.specs.declared.words.ObjectNo.{ObjectNo}
use Rattle.tlm_types.specs.declared.words.ObjectNo.TheVariants.{Hop, Pool}
use Rattle.tlm_model.specs.declared.operation.Operation.{Operation}
use Rattle.tlm_model.specs.declared.platform.InitiatorRow.{InitiatorRow}
use Rattle.tlm_model.specs.declared.platform.Platform.{Platform}
use Rattle.tlm_model.specs.Plan.{Plan, Initiator, initiators_of}
use Rattle.tlm_model.specs.declared.platform.Target.TheVariants.{Memory}
use Rattle.tlm_model.specs.declared.ask.Ask.{Ask}
use Rattle.tlm_model.specs.declared.ask.Ask.TheVariants.{Access as AnAccess, DebugRead as ADebugRead, Invalidation as AnInvalidation}
use Rattle.tlm_model.specs.Actions.{asks_of}
use Rattle.platform_shape.specs.Paths.{has_path, once}
use Rattle.route_plan.specs.Places.{object_place}
use Rattle.route_plan.specs.Planned.{by_fourphase, leads_to, is_direct, share_of, logged_share}
use Rattle.route_plan.specs.Routes.{bound_walk}

-- what is counted at an object: the entries that accesses, debug reads and invalidations add to its log, the bytes that
-- accesses and debug reads log, or the invalidations
pub data Counted : Type 0 where
  Entries : Counted
  Logged : Counted
  Invalidations : Counted

-- an address of the initiator with number n leads to memory m
abbrev pub is_led_to : Platform → ℕ → ℕ → ℕ → Bool
is_led_to p n m a = leads_to (bound_walk p n a).end m

-- the entries at place k that a four-phase access of the initiator with number n makes for a hop that it passes: four
-- of the hop, and two of the initiator's pool
abbrev pub added_by_hop : Platform → ℕ → ℕ → ℕ → ℕ
added_by_hop p n k h = 4 * once (object_place p (Hop h) == k) + 2 * once (object_place p (Pool n) == k)

-- those for all these hops, with two more of the pool
abbrev pub added_by_hops : Platform → ℕ → ℕ → List ℕ → ℕ
added_by_hops p n k hops = 2 * once (object_place p (Pool n) == k) + sum_by (added_by_hop p n k) hops

abbrev pub passed_by : Option InitiatorRow → ℕ → ℕ
passed_by None added = 0
passed_by (Some row) added = by_fourphase row.style added

-- the entries at place k that an access of the initiator with number n makes on its way, if it is four-phase
abbrev pub passed_at : Platform → ℕ → ℕ → ℕ → ℕ
passed_at p n k a = passed_by (slice_get p.initiators n) (added_by_hops p n k (bound_walk p n a).hops)

-- what is counted at place k of something that the initiator with number n asks for
abbrev pub counted_of : Counted → Platform → ℕ → ℕ → Ask → ℕ
counted_of Entries p n k (AnAccess a b) = once (is_led_to p n k a) + passed_at p n k a
counted_of Entries p n k (ADebugRead a b) = once (is_led_to p n k a)
counted_of Entries p n k (AnInvalidation a) = once (is_led_to p n k a)
counted_of Logged p n k (AnAccess a b) = b * once (is_led_to p n k a)
counted_of Logged p n k (ADebugRead a b) = b * once (is_led_to p n k a)
counted_of Logged p n k (AnInvalidation a) = 0
counted_of Invalidations p n k (AnAccess a b) = 0
counted_of Invalidations p n k (ADebugRead a b) = 0
counted_of Invalidations p n k (AnInvalidation a) = once (is_led_to p n k a)

-- what is counted of these operations
abbrev pub counted_in : Counted → Platform → ℕ → ℕ → List Operation → ℕ
counted_in c p n k operations = sum_by (counted_of c p n k) (flat_map asks_of operations)

abbrev pub share_by : Plan → ObjectNo → Option Initiator → ℕ
share_by p o None = 0
share_by p o (Some i) = share_of p i o

-- the entries that the initiator with number n may add to an object
abbrev pub share_at : Plan → ℕ → ObjectNo → ℕ
share_at p n o = share_by p o (slice_get (initiators_of p) n)

abbrev pub logged_share_by : Plan → ℕ → Option Initiator → ℕ
logged_share_by p m None = 0
logged_share_by p m (Some i) = logged_share p i m

-- the bytes that the initiator with number n may log at memory m
abbrev pub logged_share_at : Plan → ℕ → ℕ → ℕ
logged_share_at p n m = logged_share_by p m (slice_get (initiators_of p) n)

abbrev pub is_granted_by : Platform → ℕ → Option InitiatorRow → Bool
is_granted_by p m None = false
is_granted_by p m (Some row) = is_direct row.style && has_path p row (Memory m)

-- the initiator with number n is direct and has a path to memory m
abbrev pub is_granted_at : Platform → ℕ → ℕ → Bool
is_granted_at p n m = is_granted_by p m (slice_get p.initiators n)
