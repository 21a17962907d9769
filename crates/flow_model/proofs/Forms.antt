-- Forms in which the proofs read a history: at each split, each transaction's calls on a hop as a list of what they say, and what a
-- hop's log gives at each call.
use Rattle.std.proofs.Common.{ℕ, ◌≡◌, ◌+◌, ◌≤◌, List, [], ◌∷◌, ◌++◌, length, Bool, true, false, cond, ◌&&◌, ◌⊎◌, Option, Some, None}
use Rattle.std.specs.Prelude.{◌==◌, if◌then◌else◌}
use Rattle.std.specs.List.{filter_map}
use Rattle.tlm_types.specs.declared.words.ObjectNo.{ObjectNo}
use Rattle.tlm_types.specs.declared.words.ObjectNo.TheVariants.{Hop, Pool}
use Rattle.tlm_types.specs.declared.words.Phase.{Phase}
use Rattle.tlm_types.specs.declared.words.Phase.TheVariants.{BeginReq, EndReq, BeginResp, EndResp}
use Rattle.tlm_types.specs.declared.words.TlmSync.{TlmSync}
use Rattle.tlm_types.specs.declared.words.TlmSync.TheVariants.{Accepted, Updated, Completed}
use Rattle.tlm_types.specs.declared.entry.Entry.{Entry}
use Rattle.tlm_types.specs.declared.words.TxnId.{TxnId}
use Rattle.tlm_types.specs.declared.words.ReqMode.{ReqMode}
use Rattle.tlm_types.specs.declared.words.ReqMode.TheVariants.{Accept, Short, EndReq as AtOnce, BeginResp as WithResponse, Complete}
use Rattle.tlm_types.specs.declared.words.RespMode.{RespMode}
use Rattle.tlm_types.specs.declared.words.RespMode.TheVariants.{Accept as Accepts, EndResp as Ends, Complete as Completes}
use Rattle.tlm_types.specs.declared.entry.What.{What}
use Rattle.tlm_types.specs.declared.entry.What.TheVariants.{Call, Acquire}
use Rattle.tlm_model.specs.Route.{greatest_time}
use Rattle.flow_model.specs.Answers.{response_answer}
use Rattle.flow_model.specs.ByRules.{request_end as hop_request_end}
use Rattle.flow_model.specs.Calls.{has_open_request}
use Rattle.flow_model.specs.World.{World, Passage, IsWorld}
use Rattle.flow_model.specs.Events.{Event, Among, Finds, IsCall, IsPhase, IsOwn, IsTake, IsTakeOf, IsAccess, at, entries, hop_log}
use Rattle.flow_model.specs.Backed.{IsBacked, EndsResponse}
use Rattle.flow_model.specs.Pools.{PoolStepBy, slots_after}
use Rattle.flow_model.specs.Slots.{no_slots}

-- P holds of each event with the list of those before it
abbrev pub AtSplits : (List Event → Event → Type 0) → List Event → Type 0
AtSplits P h = (before : List Event) (e : Event) (after : List Event) → h ≡ before ++ e ∷ after → P before e

pub record Saying : Type 0 where
  pub phase : Phase
  pub answer : TlmSync

abbrev pub says : Phase → TlmSync → Saying
says p a = record { phase = p; answer = a }

abbrev pub is_txn : TxnId → TxnId → Bool
is_txn x y = (y.initiator == x.initiator) && (y.seq == x.seq)

abbrev pub said_by : ℕ → ObjectNo → What → Option Saying
said_by o (Hop p) (Call ph a) = cond (p == o) (Some (says ph a)) None
said_by o _ _ = None

abbrev pub said : TxnId → ℕ → Event → Option Saying
said x o e = cond (is_txn x e.txn) (said_by o e.object e.what) None

-- the calls of x on hop o, in order
abbrev pub sayings : TxnId → ℕ → List Event → List Saying
sayings x o h = filter_map (said x o) h

-- the three endings, and the sequences
abbrev pub ending : RespMode → List Saying
ending Accepts = says BeginResp Accepted ∷ says EndResp Completed ∷ []
ending Ends = says BeginResp (Updated EndResp) ∷ []
ending Completes = says BeginResp Completed ∷ []

abbrev pub completed : List Saying
completed = says BeginReq Completed ∷ []

abbrev pub with_response : List Saying
with_response = says BeginReq (Updated BeginResp) ∷ says EndResp Completed ∷ []

abbrev pub at_once : RespMode → List Saying
at_once r = says BeginReq (Updated EndReq) ∷ ending r

abbrev pub accepted : RespMode → List Saying
accepted r = says BeginReq Accepted ∷ says EndReq Accepted ∷ ending r

abbrev pub short : RespMode → List Saying
short r = says BeginReq Accepted ∷ ending r

abbrev pub eleven : List (List Saying)
eleven =
    completed ∷ with_response ∷
    at_once Accepts ∷ at_once Ends ∷ at_once Completes ∷
    accepted Accepts ∷ accepted Ends ∷ accepted Completes ∷
    short Accepts ∷ short Ends ∷ short Completes ∷ []

abbrev pub IsPrefix : List Saying → List Saying → Type 0
IsPrefix [] s = Unit {0}
IsPrefix (c ∷ cs) [] = ⊥
IsPrefix (c ∷ cs) (s ∷ ss) = (c ≡ s) × IsPrefix cs ss

-- a prefix of one of these
abbrev pub IsPrefixOf : List (List Saying) → List Saying → Type 0
IsPrefixOf [] cs = ⊥
IsPrefixOf (s ∷ ss) cs = IsPrefix cs s ⊎ IsPrefixOf ss cs

-- the sequences of a row
abbrev pub rows : ReqMode → RespMode → List (List Saying)
rows Complete r = completed ∷ []
rows WithResponse r = with_response ∷ at_once r ∷ []
rows AtOnce r = at_once r ∷ []
rows Accept r = accepted r ∷ []
rows Short r = short r ∷ []

-- one of these
abbrev pub IsOneOf : List (List Saying) → List Saying → Type 0
IsOneOf [] cs = ⊥
IsOneOf (s ∷ ss) cs = (cs ≡ s) ⊎ IsOneOf ss cs

-- the answers to BEGIN_REQ by the mode of the callee
abbrev pub RequestAnswer : ReqMode → TlmSync → Type 0
RequestAnswer Accept a = a ≡ Accepted
RequestAnswer Short a = a ≡ Accepted
RequestAnswer AtOnce a = a ≡ Updated EndReq
RequestAnswer Complete a = a ≡ Completed
RequestAnswer WithResponse a = (a ≡ Updated BeginResp) ⊎ (a ≡ Updated EndReq)

-- in this log the request of x is open
abbrev pub IsRequested : TxnId → ℕ → List Event → Type 0
IsRequested x o log = sayings x o log ≡ says BeginReq Accepted ∷ []

abbrev pub is_asking : Phase → TlmSync → Bool
is_asking BeginReq Accepted = true
is_asking _ _ = false

abbrev pub is_requested : List Saying → Bool
is_requested [] = false
is_requested (s ∷ []) = is_asking s.phase s.answer
is_requested (s ∷ t ∷ l) = false

-- the call of y that stands after this log ends a request
abbrev pub ends_request : ℕ → List Event → TxnId → Phase → TlmSync → Bool
ends_request o log y EndReq a = true
ends_request o log y BeginReq Accepted = false
ends_request o log y BeginReq _ = true
ends_request o log y BeginResp a = is_requested (sayings y o log)
ends_request o log y EndResp a = false

abbrev pub ended_by : ℕ → List Event → TxnId → ℕ → What → ℕ → ℕ
ended_by o log y u (Call p a) t = if ends_request o log y p a then u else t
ended_by o log y u _ t = t

abbrev pub request_end_from : ℕ → List Event → ℕ → List Event → ℕ
request_end_from o before t [] = t
request_end_from o before t (e ∷ es) = request_end_from o (before ++ e ∷ []) (ended_by o before e.txn e.time e.what t) es

-- the time of the log's last call that ended a request, 0 where there is none
abbrev pub request_end : ℕ → List Event → ℕ
request_end o log = request_end_from o [] 0 log

-- a call e that stands after this log: its answer and its time
pub record CallStep (w : World) (o : ℕ) (log : List Event) (e : Event) (p : Phase) (a : TlmSync) : Type 0 where
  pub free : p ≡ BeginReq → (y : TxnId) → ¬ IsRequested y o log
  pub request_answer : p ≡ BeginReq → RequestAnswer (w.hop o).req a
  pub response_answer : p ≡ BeginResp → a ≡ response_answer (w.hop o).resp
  pub after_requests : p ≡ BeginReq → request_end o log ≤ e.time
  pub after_own : (f : Event) → Among log f → IsOwn e.txn o f → f.time ≤ e.time
  pub after_responses : p ≡ BeginResp → (f : Event) → Among log f → EndsResponse o f → f.time ≤ e.time

pub record HopStep (w : World) (o : ℕ) (log : List Event) (e : Event) : Type 0 where
  pub phase : Phase
  pub answer : TlmSync
  pub what : e.what ≡ Call phase answer
  pub step : CallStep w o log e phase answer

-- no transaction has two BEGIN_REQs on the hop
abbrev pub BeginsOnce : ℕ → List Event → Type 0
BeginsOnce o h = AtSplits (λ before e. (x : TxnId) → IsPhase x o BeginReq e → ¬ Finds (Among before) (IsPhase x o BeginReq)) h

-- the calls of each transaction are a prefix of one of the eleven sequences, and each call has the answer and the time of its hop
pub record HopModel (w : World) (o : ℕ) (log : List Event) : Type 0 where
  pub proper : (x : TxnId) → IsPrefixOf eleven (sayings x o log)
  pub steps : AtSplits (HopStep w o) log

-- the premises, at each split
abbrev pub PoolSteps : ℕ → List Event → Type 0
PoolSteps slots log = AtSplits (λ before e. PoolStepBy slots (slots_after no_slots before) e.txn e.number e.what) log

abbrev pub TakesOnce : List Event → Type 0
TakesOnce log = AtSplits (λ before e. (x : TxnId) → IsTakeOf x e → ¬ Finds (Among before) (IsTakeOf x)) log

pub record Given (w : World) (slots : ℕ → ℕ) (issued : List Entry → TxnId → ℕ) (h : List Event) : Type 0 where
  pub world : IsWorld w
  pub backed : AtSplits (λ before e. IsBacked w (Among before) e) h
  pub hops : (o : ℕ) → HopModel w o (at (Hop o) h)
  pub marks : AtSplits (λ before e. (o : ℕ) (a : TlmSync) → IsCall e.txn o BeginResp a e → e.number ≡ 1 → has_open_request e.txn (hop_log o before) ≡ true) h
  pub pools : (i : ℕ) → PoolSteps (slots i) (at (Pool i) h)
  pub one_take : (i : ℕ) → TakesOnce (at (Pool i) h)
  pub one_access : AtSplits (λ before e. (x : TxnId) → IsAccess x e → ¬ Finds (Among before) (IsAccess x)) h
  pub one_begin : (o : ℕ) → BeginsOnce o (at (Hop o) h)
  pub unrouted : (x : TxnId) (pass : Passage) → w.passage x ≡ Some pass → pass.routed ≡ false → (e : Event) → Among h e → ¬ IsAccess x e
  pub takes : AtSplits (λ before e. (x : TxnId) → IsTake x e → e.time ≡ issued (entries before) x) h
  pub times : (e : Event) → Among h e → e.time ≤ greatest_time
  pub request_ends : (o : ℕ) (before after : List Event) → h ≡ before ++ after → hop_request_end (hop_log o before) ≡ request_end o (at (Hop o) before)

-- the number of Acquires of x
abbrev pub acquire_by : Bool → What → ℕ
acquire_by true (Acquire k) = 1
acquire_by _ _ = 0

abbrev pub acquires : TxnId → List Event → ℕ
acquires x [] = 0
acquires x (e ∷ es) = acquire_by (is_txn x e.txn) e.what + acquires x es

-- how many entries of the list are of x
abbrev pub one_if : Bool → ℕ
one_if true = 1
one_if false = 0

abbrev pub own_count : TxnId → List Event → ℕ
own_count x [] = 0
own_count x (e ∷ es) = one_if (is_txn x e.txn) + own_count x es

abbrev pub sum_over : (TxnId → ℕ) → List TxnId → ℕ
sum_over f [] = 0
sum_over f (x ∷ xs) = f x + sum_over f xs

abbrev pub AllDiffer : {X : Type 0} → List X → Type 0
AllDiffer [] = Unit {0}
AllDiffer (x ∷ xs) = (¬ Among xs x) × AllDiffer xs

-- each transaction has just as many entries as it spent, and no other transaction has one
pub record AllKnown (xs : List TxnId) (spent : TxnId → ℕ) (log : List Event) : Type 0 where
  pub own : (x : TxnId) → Among xs x → own_count x log ≡ spent x
  pub none : (y : TxnId) → ¬ Among xs y → own_count y log ≡ 0

-- the calls of x on a hop have a whole sequence of this length among them
pub record HasSequence (o : ℕ) (log : List Event) (x : TxnId) (n : ℕ) : Type 0 where
  pub sequence : List Saying
  pub is : Among eleven sequence
  pub long : length sequence ≡ n
  pub all : (s : Saying) → Among sequence s → Among (sayings x o log) s
