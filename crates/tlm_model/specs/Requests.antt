-- What an initiator asks for, and when.
use Rattle.std.specs.Prelude.{ℕ, ◌+◌, Bool, false, ◌&&◌, List, [], ◌∷◌, length, Option, Some, None, is_none, if◌then◌else◌, ◌==◌}
use Rattle.std.specs.List.{filter}
use Rattle.tlm_types.specs.declared.words.TxnId.{TxnId}
use Rattle.tlm_types.specs.declared.entry.Entry.{Entry}
use Rattle.tlm_types.specs.declared.entry.What.{What}
use Rattle.tlm_types.specs.declared.entry.What.TheVariants.{Access as Accessed}
use Rattle.tlm_model.specs.declared.operation.Operation.{Operation}
use Rattle.tlm_model.specs.declared.platform.Platform.{Platform}
use Rattle.tlm_model.specs.Actions.{Action, Plain, Alone, Pair, Pause, action_of, asks_of}
pub use Rattle.tlm_model.specs.Actions.{Asked, Transport, DebugRead, Invalidation, write_of, read_of, ignore_of, debug_of, fetch_add_of, data_logged}
pub use Rattle.tlm_model.specs.Numbers.{le_number, le_bytes, added}
use Rattle.tlm_model.specs.Plan.{Initiator}
use Rattle.tlm_model.specs.Route.{later, Route, route_of, latency_of}
use Rattle.tlm_model.specs.Store.{zeros}

-- A request: its number, its address, what it asks for, the time at which a blocking or direct initiator
-- issues it, and its stage: how often a four-phase initiator has waited before it for all that it had
-- asked for.
pub record Request : Type 0 where
  pub seq : ℕ
  pub address : ℕ
  pub asked : Asked
  pub time : ℕ
  pub stage : ℕ

abbrev pub paused : ℕ → Option ℕ → ℕ
paused t None = t
paused t (Some n) = later t n

-- transport takes the latency of its walk, and nothing else takes time
abbrev pub time_past : Platform → Initiator → ℕ → ℕ → Asked → ℕ
time_past p i t a (Transport access) = later t (latency_of p i a)
time_past p i t a (DebugRead access) = t
time_past p i t a (Invalidation n) = t

abbrev pub time_by : Platform → Initiator → ℕ → Action → ℕ
time_by p i t (Plain a access) = later t (latency_of p i a)
time_by p i t (Alone a asked) = time_past p i t a asked
time_by p i t (Pair from to n change) = later (later t (latency_of p i from)) (latency_of p i to)
time_by p i t (Pause time sync) = paused t time

-- the current time of a blocking or direct initiator after an operation
abbrev pub time_after : Platform → Initiator → ℕ → Operation → ℕ
time_after p i t op = time_by p i t (action_of op)

-- how many sequence numbers an operation takes
abbrev pub numbers_of : Operation → ℕ
numbers_of op = length (asks_of op)

-- the sequence numbers that a script takes
abbrev pub numbers_in : List Operation → ℕ
numbers_in [] = 0
numbers_in (op ∷ ops) = numbers_of op + numbers_in ops

abbrev pub is_txn : ℕ → ℕ → TxnId → Bool
is_txn i s t = (t.initiator == i) && (t.seq == s)

abbrev pub got_in : What → Option (List ℕ)
got_in (Accessed way access status got) = Some got
got_in w = None

abbrev pub first_of_two : Option (List ℕ) → Option (List ℕ) → Option (List ℕ)
first_of_two None y = y
first_of_two (Some x) y = Some x

-- the buffer that the history answers to request s of initiator number i
abbrev pub answered : ℕ → ℕ → List Entry → Option (List ℕ)
answered i s [] = None
answered i s (e ∷ es) = first_of_two (if is_txn i s e.txn then got_in e.what else None) (answered i s es)

abbrev pub buffer_by : Option Route → ℕ → ℕ → ℕ → List Entry → Option (List ℕ)
buffer_by None n i s h = Some (zeros n)
buffer_by (Some r) n i s h = answered i s h

-- a read's buffer after its reply, once there is one: without a route it is zeros
abbrev pub buffer_of : Platform → Initiator → List Entry → ℕ → ℕ → ℕ → Option (List ℕ)
buffer_of p i h s a n = buffer_by (route_of p i a) n i.number s h

-- requests that use what an earlier one answered, once it has answered
abbrev pub using : Option (List ℕ) → (List ℕ → List Request) → List Request
using None next = []
using (Some got) next = next got

-- What an action asks for, from this number, time and stage on, where a history answers; `next` is what comes after it.
-- A plain access waits for nothing, so what comes after it has its stage; each other request has a stage of its own.
abbrev pub requests_by : Platform → Initiator → List Entry → ℕ → ℕ → ℕ → Action → (ℕ → ℕ → ℕ → List Request) → List Request
requests_by p i h s t g (Plain a access) next =
    record { seq = s; address = a; asked = Transport access; time = t; stage = g } ∷
    next (s + 1) (later t (latency_of p i a)) g
requests_by p i h s t g (Alone a asked) next =
    record { seq = s; address = a; asked = asked; time = t; stage = g + 1 } ∷
    next (s + 1) (time_past p i t a asked) (g + 2)
requests_by p i h s t g (Pair from to n change) next =
    record { seq = s; address = from; asked = Transport (read_of n [] n); time = t; stage = g + 1 } ∷
    using (buffer_of p i h s from n) (λ got.
    record { seq = s + 1; address = to; asked = Transport (write_of (change got) [] n); time = later t (latency_of p i from); stage = g + 2 } ∷
    next (s + 2) (later (later t (latency_of p i from)) (latency_of p i to)) (g + 3))
requests_by p i h s t g (Pause time sync) next = next s (paused t time) (g + 1)

-- what these operations ask for, from this number, time and stage on, where a history answers
abbrev pub requests_from : Platform → Initiator → List Entry → ℕ → ℕ → ℕ → List Operation → List Request
requests_from p i h s t g [] = []
requests_from p i h s t g (op ∷ ops) = requests_by p i h s t g (action_of op) (λ s t g. requests_from p i h s t g ops)

-- what an initiator has asked for, where a history answers: request k stands at place k
abbrev pub requests_of : Platform → Initiator → List Entry → List Request
requests_of p i h = requests_from p i h 0 0 0 i.script

abbrev pub end_from : Platform → Initiator → ℕ → List Operation → ℕ
end_from p i t [] = t
end_from p i t (op ∷ ops) = end_from p i (time_after p i t op) ops

-- the end time of a blocking or direct initiator
abbrev pub end_of : Platform → Initiator → ℕ
end_of p i = end_from p i 0 i.script

abbrev pub has_no_route : Platform → Initiator → Request → Asked → Bool
has_no_route p i r (Transport a) = is_none (route_of p i r.address)
has_no_route p i r (DebugRead a) = is_none (route_of p i r.address)
has_no_route p i r (Invalidation n) = false

-- the accesses and debug reads whose address has no route
abbrev pub refused_of : Platform → Initiator → List Entry → List Request
refused_of p i h = filter (λ r. has_no_route p i r r.asked) (requests_of p i h)
