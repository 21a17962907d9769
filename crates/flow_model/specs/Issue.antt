-- When a four-phase initiator issues its requests: it keeps its current time, and waits for all accesses that are outstanding
-- before each operation that isn't a plain access.
use Rattle.std.specs.Prelude.{ℕ, zero, suc, ◌+◌, max, List, [], ◌∷◌, Option, Some, None, get_or, slice_get}
use Rattle.tlm_types.specs.declared.words.TxnId.{TxnId}
use Rattle.tlm_types.specs.declared.entry.Entry.{Entry}
use Rattle.tlm_model.specs.declared.operation.Operation.{Operation}
use Rattle.tlm_model.specs.Actions.{Action, Plain, Alone, Pair, Pause, action_of}
use Rattle.tlm_model.specs.Plan.{Plan, Initiator, initiators_of}
use Rattle.tlm_model.specs.Requests.{paused}
use Rattle.flow_model.specs.Ends.{access_end}
use Rattle.flow_model.specs.Platform.{world_of}

-- the greatest of a time and the ends of the first s accesses
abbrev pub settled : (ℕ → ℕ) → ℕ → ℕ → ℕ
settled end zero t = t
settled end (suc s) t = max (settled end s t) (end s)

-- The times at which the requests of an action are issued, where the first has number s, t is the current time and `end` has the
-- end of each access; `next` has the times that come after them.
abbrev pub issues_by : (ℕ → ℕ) → ℕ → ℕ → Action → (ℕ → ℕ → List ℕ) → List ℕ
issues_by end s t (Plain a access) next = t ∷ next (s + 1) t
issues_by end s t (Alone a asked) next = settled end s t ∷ next (s + 1) (settled end s t)
issues_by end s t (Pair from to n change) next = settled end s t ∷ settled end (s + 1) t ∷ next (s + 2) (settled end (s + 1) t)
issues_by end s t (Pause time sync) next = next s (paused (settled end s t) time)

-- the same of these operations
abbrev pub issues_from : (ℕ → ℕ) → ℕ → ℕ → List Operation → List ℕ
issues_from end s t [] = []
issues_from end s t (op ∷ ops) = issues_by end s t (action_of op) (λ s t. issues_from end s t ops)

abbrev pub current_by : (ℕ → ℕ) → ℕ → ℕ → Action → (ℕ → ℕ → ℕ) → ℕ
current_by end s t (Plain a access) next = next (s + 1) t
current_by end s t (Alone a asked) next = next (s + 1) (settled end s t)
current_by end s t (Pair from to n change) next = next (s + 2) (settled end (s + 1) t)
current_by end s t (Pause time sync) next = next s (paused (settled end s t) time)

-- the current time after these operations
abbrev pub current_from : (ℕ → ℕ) → ℕ → ℕ → List Operation → ℕ
current_from end s t [] = t
current_from end s t (op ∷ ops) = current_by end s t (action_of op) (λ s t. current_from end s t ops)

-- the ends of the accesses of an initiator, by their numbers
abbrev pub ends_of : Plan → List Entry → ℕ → ℕ → ℕ
ends_of p h i s = access_end (world_of p) h (record { initiator = i; seq = s })

abbrev pub issue_by : Plan → List Entry → ℕ → Option Initiator → ℕ
issue_by p h s None = 0
issue_by p h s (Some i) = get_or (issues_from (ends_of p h i.number) 0 0 i.script) s 0

-- the time at which a four-phase initiator issues a request, by the history so far
abbrev pub issue_time : Plan → List Entry → TxnId → ℕ
issue_time p h x = issue_by p h x.seq (slice_get (initiators_of p) x.initiator)
