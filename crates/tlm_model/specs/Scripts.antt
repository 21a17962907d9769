-- Whether a history runs the scripts of a plan.
use Rattle.std.specs.Prelude.{ℕ, ◌≡◌, ◌+◌, ◌-◌, ◌^◌, min, Bool, true, false, not, ◌&&◌, ◌||◌, IsTrue, List, take, sum_by, Option, Some, None, MatchOption, is_none, slice_get, nat_lt, nat_le}
use Rattle.std.specs.List.{list_any, list_all}
use Rattle.tlm_types.specs.declared.words.ObjectNo.{ObjectNo}
use Rattle.tlm_types.specs.declared.words.ObjectNo.TheVariants.{Memory, Hop, Pool}
use Rattle.tlm_types.specs.declared.words.Way.{Way}
use Rattle.tlm_types.specs.declared.words.Way.TheVariants.{Blocking, FourPhase, Direct, Debug}
use Rattle.tlm_types.specs.declared.entry.Access.{Access}
use Rattle.tlm_types.specs.declared.entry.Entry.{Entry}
use Rattle.tlm_types.specs.declared.entry.What.{What}
use Rattle.tlm_types.specs.declared.entry.What.TheVariants.{Access as Accessed, Granted, Invalidated, Closed, Call, Take, Acquire, Release}
use Rattle.tlm_model.specs.declared.platform.MemoryRow.{MemoryRow}
use Rattle.tlm_model.specs.declared.platform.Platform.{Platform}
use Rattle.tlm_model.specs.declared.platform.Style.{Style}
use Rattle.tlm_model.specs.declared.platform.Style.TheVariants.{Blocking as blocking_style, Direct as direct_style, FourPhase as fourphase_style}
use Rattle.tlm_model.specs.Each.{AtEach}
use Rattle.tlm_model.specs.Plan.{Plan, Initiator, initiators_of}
use Rattle.tlm_model.specs.Requests.{Asked, Transport, DebugRead, Invalidation, Request, is_txn, requests_of}
use Rattle.tlm_model.specs.Route.{Route, route_of}

-- Q holds of an entry's initiator and request: the initiator has asked for it, by the replies that stand
-- before the entry
abbrev pub OfRequest : Plan → List Entry → Entry → (Initiator → Request → Type 0) → Type 0
OfRequest p before e Q =
    MatchOption (slice_get (initiators_of p) e.txn.initiator) ⊥ (λ i.
    MatchOption (slice_get (requests_of p.platform i before) e.txn.seq) ⊥ (λ r. Q i r))

abbrev pub IsAccessOf : Option Route → Asked → ObjectNo → Access → Type 0
IsAccessOf None asked o access = ⊥
IsAccessOf (Some r) (Transport a) o access = (o ≡ Memory r.memory) × (access ≡ record a { offset = r.offset })
IsAccessOf (Some r) (DebugRead a) o access = (o ≡ Memory r.memory) × (access ≡ record a { offset = r.offset })
IsAccessOf (Some r) (Invalidation n) o access = ⊥

abbrev pub IsInvalidationOf : Option Route → Asked → ObjectNo → ℕ → ℕ → Type 0
IsInvalidationOf None asked o first last = ⊥
IsInvalidationOf (Some r) (Transport a) o first last = ⊥
IsInvalidationOf (Some r) (DebugRead a) o first last = ⊥
IsInvalidationOf (Some r) (Invalidation n) o first last = (o ≡ Memory r.memory) × (first ≡ r.offset) × (last ≡ min (r.offset + (n - 1)) (2 ^ 64 - 1))

-- an access or an invalidation is that of its request, at the memory and offset that the address leads to
abbrev pub IsEntryOf : Option Route → Asked → ObjectNo → What → Type 0
IsEntryOf route asked o (Accessed way access status got) = IsAccessOf route asked o access
IsEntryOf route asked o (Invalidated first last) = IsInvalidationOf route asked o first last
IsEntryOf route asked o w = Unit {0}

abbrev pub IsDecoupledWay : Way → Type 0
IsDecoupledWay Blocking = Unit {0}
IsDecoupledWay (Direct g) = Unit {0}
IsDecoupledWay way = ⊥

abbrev pub IsWay : Style → Asked → Way → Type 0
IsWay blocking_style (Transport a) way = way ≡ Blocking
IsWay direct_style (Transport a) way = IsDecoupledWay way
IsWay fourphase_style (Transport a) way = way ≡ FourPhase
IsWay style (DebugRead a) way = way ≡ Debug
IsWay style (Invalidation n) way = ⊥

-- a grant goes to an access of a direct initiator
abbrev pub IsGrantee : Style → Asked → Type 0
IsGrantee direct_style (Transport a) = Unit {0}
IsGrantee style asked = ⊥

-- a gate is closed by an invalidation
abbrev pub IsCloser : Asked → Type 0
IsCloser (Transport a) = ⊥
IsCloser (DebugRead a) = ⊥
IsCloser (Invalidation n) = Unit {0}

-- an access came by a way of its initiator's style, and a grant or a closing belongs to a request that can have one
-- (IEEE 1666-2011, clause 11.2)
abbrev pub HasWay : Style → Asked → What → Type 0
HasWay style asked (Accessed way access status got) = IsWay style asked way
HasWay style asked (Granted g f l k) = IsGrantee style asked
HasWay style asked (Closed g) = IsCloser asked
HasWay style asked w = Unit {0}

-- an access or an invalidation, by which a history answers a request
abbrev pub is_answer : What → Bool
is_answer (Accessed way access status got) = true
is_answer (Invalidated f l) = true
is_answer w = false

-- the history has the access or the invalidation of request s of initiator number i
abbrev pub has_answer : ℕ → ℕ → List Entry → Bool
has_answer i s h = list_any (λ e. is_txn i s e.txn && is_answer e.what) h

-- the history has answered a request, or there is nothing to answer: its address has no route
abbrev pub is_settled : Platform → Initiator → List Entry → Request → Bool
is_settled p i h r = is_none (route_of p i r.address) || has_answer i.number r.seq h

-- whether an initiator waits for the answer to r before it asks for q
abbrev pub comes_first : Style → Request → Request → Bool
comes_first blocking_style r q = nat_lt r.seq q.seq
comes_first direct_style r q = nat_lt r.seq q.seq
comes_first fourphase_style r q = nat_lt r.stage q.stage

-- a request is answered once, and after those that come first
abbrev pub IsInOrder : Platform → Initiator → List Entry → Request → Bool → Type 0
IsInOrder p i before q false = Unit {0}
IsInOrder p i before q true =
    (has_answer i.number q.seq before ≡ false)
    × IsTrue (list_all (λ r. not (comes_first i.row.style r q) || is_settled p i before r) (requests_of p i before))

-- the gates of the memories below m
abbrev pub first_gate : Platform → ℕ → ℕ
first_gate p m = sum_by (λ (row : MemoryRow). row.traits.gates) (take m p.memories)

abbrev pub has_gate : Platform → ℕ → ℕ → Bool
has_gate p m g = nat_le (first_gate p m) g && nat_lt g (first_gate p (m + 1))

-- accesses, grants, invalidations and closings stand at memories, calls at hops, pool moves at the pool of
-- their initiator
abbrev pub IsPlaced : Platform → ℕ → ObjectNo → What → Type 0
IsPlaced p i (Memory m) (Accessed way access status got) = Unit {0}
IsPlaced p i (Memory m) (Granted g f l k) = IsTrue (has_gate p m g)
IsPlaced p i (Memory m) (Invalidated f l) = Unit {0}
IsPlaced p i (Memory m) (Closed g) = IsTrue (has_gate p m g)
IsPlaced p i (Hop h) (Call c a) = Unit {0}
IsPlaced p i (Pool n) (Take s) = n ≡ i
IsPlaced p i (Pool n) (Acquire s) = n ≡ i
IsPlaced p i (Pool n) (Release s f) = n ≡ i
IsPlaced p i o w = ⊥

-- A history runs the scripts, as far as it has come.
pub record RunsScripts (p : Plan) (h : List Entry) : Type 0 where
  -- each access and each invalidation is that of a request of its initiator
  pub replies : AtEach (λ before e. OfRequest p before e (λ i r. IsEntryOf (route_of p.platform i r.address) r.asked e.object e.what)) h
  -- each access came by a way of its initiator's style; grants and closings belong to requests that can have them
  pub ways : AtEach (λ before e. OfRequest p before e (λ i r. HasWay i.row.style r.asked e.what)) h
  -- no request is answered twice, and none before those that its initiator waits for: for a blocking or a
  -- direct initiator all earlier ones
  pub order : AtEach (λ before e. OfRequest p before e (λ i r. IsInOrder p.platform i before r (is_answer e.what))) h
  -- each entry stands at an object of its kind
  pub places : AtEach (λ before e. IsPlaced p.platform e.txn.initiator e.object e.what) h
