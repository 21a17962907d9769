-- How many entries at a memory a run may still make, and how many bytes they log.
use Rattle.std.specs.Prelude.{ℕ, ◌+◌, ◌*◌, List, [], ◌∷◌, length, sum_by, Option, Some, None}
use Rattle.std.specs.List.{flat_map}
use Rattle.tlm_model.specs.declared.operation.Operation.{Operation}
use Rattle.tlm_model.specs.Actions.{asks_of}
use Rattle.tlm_model.specs.Plan.{Plan, Initiator}
use Rattle.platform_shape.specs.Paths.{once}
use Rattle.route_plan.specs.Planned.{at_memory, is_routed_to, logged_at}
use Rattle.script_engine.specs.State.{Due, State}
use Rattle.initiator_run.specs.Run.{Run}

-- an address of an initiator leads to memory m
abbrev pub leads : Plan → Initiator → ℕ → ℕ → ℕ
leads p i m a = once (is_routed_to p i m a)

-- each access, debug read and invalidation of these operations is one entry at the memory that it leads to
abbrev pub asked_in : Plan → Initiator → ℕ → List Operation → ℕ
asked_in p i m ops = sum_by (at_memory p i m) (flat_map asks_of ops)

abbrev pub asked_due : Plan → Initiator → ℕ → Option Due → ℕ
asked_due p i m None = 0
asked_due p i m (Some w) = leads p i m w.address

-- what an engine is still to ask of memory m
abbrev pub asks_left : Plan → Initiator → ℕ → State → ℕ
asks_left p i m e = asked_due p i m e.due + asked_in p i m e.remaining

-- so many bytes for an access or a debug read at an address that leads to memory m
abbrev pub bytes_at : Plan → Initiator → ℕ → ℕ → ℕ → ℕ
bytes_at p i m a n = n * leads p i m a

-- and logs its bytes there
abbrev pub logged_in : Plan → Initiator → ℕ → List Operation → ℕ
logged_in p i m ops = sum_by (logged_at p i m) (flat_map asks_of ops)

abbrev pub logged_due : Plan → Initiator → ℕ → Option Due → ℕ
logged_due p i m None = 0
logged_due p i m (Some w) = bytes_at p i m w.address (length w.bytes)

-- how many bytes an engine is still to log at memory m
abbrev pub bytes_left : Plan → Initiator → ℕ → State → ℕ
bytes_left p i m e = logged_due p i m e.due + logged_in p i m e.remaining

-- what is counted of each initiator and its run, all together
abbrev pub total_of : (Initiator → State → ℕ) → List Initiator → List Run → ℕ
total_of count [] rs = 0
total_of count (i ∷ is) [] = 0
total_of count (i ∷ is) (r ∷ rs) = count i r.engine + total_of count is rs

-- what all runs are still to ask of memory m
abbrev pub total_left : Plan → ℕ → List Initiator → List Run → ℕ
total_left p m is rs = total_of (λ i e. asks_left p i m e) is rs

-- and how many bytes they are still to log there
abbrev pub total_bytes : Plan → ℕ → List Initiator → List Run → ℕ
total_bytes p m is rs = total_of (λ i e. bytes_left p i m e) is rs
