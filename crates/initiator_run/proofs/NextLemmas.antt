-- The request of what is next in a script.
use Rattle.std.proofs.Common.{◌≡◌, ℕ, ◌+◌, ◌≤◌, List, [], ◌∷◌, drop, Option, Some, None, arith}
use Rattle.std.specs.List.{AllByRecursion}
use Rattle.std.proofs.lemmas.Grind.{common_steps}
use Rattle.tlm_types.specs.declared.entry.Entry.{Entry}
use Rattle.tlm_model.specs.declared.operation.Operation.{Operation}
use Rattle.tlm_model.specs.declared.platform.Platform.{Platform}
use Rattle.tlm_model.specs.Actions.{Action, Plain, Alone, Pair, Pause, action_of}
use Rattle.tlm_model.specs.Plan.{Initiator}
use Rattle.tlm_model.specs.Requests.{Request, requests_by, requests_from, buffer_of, paused, time_past, using}
use Rattle.tlm_model.specs.Route.{later, latency_of}
use Rattle.tlm_model.proofs.HistoryLemmas.{AllByRecursion-weaker}
use Rattle.script_engine.specs.declared.part.Part.TheVariants.{Asks}
use Rattle.script_engine.specs.declared.part.Transfer.{Transfer}
use Rattle.script_engine.specs.Part.{part_of}
use Rattle.script_engine.specs.State.{Due, State, next_of, op_at, payload_at, payload_of}
use Rattle.script_engine.specs.Asking.{request_for, requests_after, requests_at}
use Rattle.script_engine.proofs.Steps.{fills}

abbrev Numbered : ℕ → List Request → Type 0
Numbered s rs = AllByRecursion (λ (q : Request). s ≤ q.seq) rs

fewer : (s n : ℕ) (rs : List Request) → s ≤ n → Numbered n rs → Numbered s rs
fewer s n rs below has = AllByRecursion-weaker (λ (q : Request). n ≤ q.seq) (λ (q : Request). s ≤ q.seq) rs (λ q above. omega arith) has

used : (s : ℕ) (o : Option (List ℕ)) (next : List ℕ → List Request) → ((got : List ℕ) → Numbered s (next got)) → Numbered s (using o next)
used s None next f = tt
used s (Some got) next f = f got

-- no action asks for a smaller number than the one that it begins at, where what comes after it doesn't
numbers_by : (p : Platform) (i : Initiator) (h : List Entry) (s t g : ℕ) (action : Action) (next : ℕ → ℕ → ℕ → List Request) → ((n u k : ℕ) → Numbered n (next n u k)) → Numbered s (requests_by p i h s t g action next)
numbers_by p i h s t g (Plain a access) next f = (omega arith, fewer s (s + 1) (next (s + 1) (later t (latency_of p i a)) g) (omega arith) (f (s + 1) (later t (latency_of p i a)) g))
numbers_by p i h s t g (Alone a asked) next f = (omega arith, fewer s (s + 1) (next (s + 1) (time_past p i t a asked) (g + 2)) (omega arith) (f (s + 1) (time_past p i t a asked) (g + 2)))
numbers_by p i h s t g (Pair from to n change) next f = (
  omega arith,
  used s (buffer_of p i h s from n) _ (λ got. (
    omega arith,
    fewer s (s + 2) (next (s + 2) (later (later t (latency_of p i from)) (latency_of p i to)) (g + 3)) (omega arith) (f (s + 2) (later (later t (latency_of p i from)) (latency_of p i to)) (g + 3)),
  )),
)
numbers_by p i h s t g (Pause time sync) next f = f s (paused t time) (g + 1)

-- what is asked for from a number on has no smaller number
pub numbers_from : (p : Platform) (i : Initiator) (h : List Entry) (s t g : ℕ) (ops : List Operation) → Numbered s (requests_from p i h s t g ops)
numbers_from p i h s t g [] = tt
numbers_from p i h s t g (op ∷ ops) = numbers_by p i h s t g (action_of op) (λ n u k. requests_from p i h n u k ops) (λ n u k. numbers_from p i h n u k ops)

numbers_after : (p : Platform) (i : Initiator) (h : List Entry) (s t g : ℕ) (due : Option Due) (ops : List Operation) → Numbered s (requests_after p i h s t g due ops)
numbers_after p i h s t g None ops = numbers_from p i h s t g ops
numbers_after p i h s t g (Some w) ops = (omega arith, fewer s (s + 1) (requests_from p i h (s + 1) (later t (latency_of p i w.address)) (g + 2) ops) (omega arith) (numbers_from p i h (s + 1) (later t (latency_of p i w.address)) (g + 2) ops))

pub numbers_at : (p : Platform) (i : Initiator) (h : List Entry) (t g : ℕ) (e : State) → Numbered e.seq (requests_at p i h t g e)
numbers_at p i h t g e = numbers_after p i h e.seq t g e.due e.remaining

-- a request that comes first, and some after it
pub record ComesFirst (r : Request) (rs : List Request) : Type 0 where
  pub more : List Request
  pub first : rs ≡ r ∷ more

first_from : (p : Platform) (i : Initiator) (h : List Entry) (s t g room : ℕ) (due : Option Due) (ops : List Operation) (x : Transfer) → part_of (op_at s due ops) ≡ Asks x
    → requests_after p i h s t g due ops ≡ request_for x (payload_at room due ops) t g ∷ drop 1 (requests_after p i h s t g due ops)
first_from p i h s t g room due ops x next = grind (arith, common_steps)

-- the request of a transfer that is next comes first, whatever is answered
pub request_is_first : (p : Platform) (i : Initiator) (h : List Entry) (t g room : ℕ) (e : State) (x : Transfer) → next_of e ≡ Asks x → ComesFirst (request_for x (payload_of e room) t g) (requests_at p i h t g e)
request_is_first p i h t g room e x next = record { more = _; first = first_from p i h e.seq t g room e.due e.remaining x next }

-- its number is the next one
pub seq_of_next : (e : State) (x : Transfer) → next_of e ≡ Asks x → x.seq ≡ e.seq
seq_of_next e x next = (fills.transfer e 0 x next).0
