-- Entries with the numbers of their references, and kinds of entries of one transaction.
use Rattle.std.specs.Prelude.{true, ℕ, ◌≡◌, ◌+◌, List, [], ◌∷◌, ◌++◌, Bool, ◌⊎◌, map}
use Rattle.std.specs.List.{filter}
use Rattle.tlm_types.specs.declared.words.ObjectNo.{ObjectNo}
use Rattle.tlm_types.specs.declared.words.ObjectNo.TheVariants.{Memory, Hop, Pool}
use Rattle.tlm_types.specs.declared.words.Phase.{Phase}
use Rattle.tlm_types.specs.declared.words.TlmSync.{TlmSync}
use Rattle.tlm_types.specs.declared.words.TxnId.{TxnId}
use Rattle.tlm_types.specs.declared.words.Way.{Way}
use Rattle.tlm_types.specs.declared.words.Response.{Response}
use Rattle.tlm_types.specs.declared.entry.Access.{Access}
use Rattle.tlm_types.specs.declared.entry.Entry.{Entry}
use Rattle.tlm_types.specs.declared.entry.What.{What}
use Rattle.tlm_types.specs.declared.entry.What.TheVariants.{Access as Accessed, Call, Take, Acquire, Release}
use Rattle.tlm_model.specs.History.{is_object, entries_at}
use Rattle.flow_model.specs.Calls.{is_of}

-- An entry, and the number of the reference that it acquires or releases: the number of a hop among those of its access,
-- or 15 for the reference of the initiator.
pub record Event : Type 0 where
  pub entry : Entry
  pub open entry use *
  pub number : ℕ

-- the entries alone
abbrev pub entries : List Event → List Entry
entries h = map (λ (e : Event). e.entry) h

-- the element stands in the list
abbrev pub Among : {X : Type 0} → List X → X → Type 0
Among [] x = ⊥
Among (y ∷ ys) x = (y ≡ x) ⊎ Among ys x

-- the events of an object
abbrev pub at : ObjectNo → List Event → List Event
at o h = filter (λ (e : Event). is_object o e.object) h

-- the entries of a hop
abbrev pub hop_log : ℕ → List Event → List Entry
hop_log o h = entries_at (Hop o) (entries h)

-- a known event with P
pub record Finds (K : Event → Type 0) (P : Event → Type 0) : Type 0 where
  pub event : Event
  pub known : K event
  pub is : P event

-- a known event with P, at this time
pub record FindsAt (K : Event → Type 0) (P : Event → Type 0) (t : ℕ) : Type 0 where
  pub event : Event
  pub known : K event
  pub is : P event
  pub time : event.time ≡ t

-- a call of x on a hop
pub record IsCall (x : TxnId) (o : ℕ) (p : Phase) (a : TlmSync) (e : Event) : Type 0 where
  pub object : e.object ≡ Hop o
  pub txn : e.txn ≡ x
  pub what : e.what ≡ Call p a

-- with any answer
pub record IsPhase (x : TxnId) (o : ℕ) (p : Phase) (e : Event) : Type 0 where
  pub answer : TlmSync
  pub call : IsCall x o p answer e

-- of any phase
pub record IsOwn (x : TxnId) (o : ℕ) (e : Event) : Type 0 where
  pub phase : Phase
  pub answer : TlmSync
  pub call : IsCall x o phase answer e

pub record IsTake (x : TxnId) (e : Event) : Type 0 where
  pub object : e.object ≡ Pool x.initiator
  pub txn : e.txn ≡ x
  pub slot : ℕ
  pub what : e.what ≡ Take slot

-- at any pool
pub record IsTakeOf (x : TxnId) (e : Event) : Type 0 where
  pub txn : e.txn ≡ x
  pub slot : ℕ
  pub what : e.what ≡ Take slot

pub record IsFreedOf (x : TxnId) (e : Event) : Type 0 where
  pub txn : e.txn ≡ x
  pub slot : ℕ
  pub what : e.what ≡ Release slot true

-- the Acquire of x numbered k
pub record IsAcquire (x : TxnId) (k : ℕ) (e : Event) : Type 0 where
  pub object : e.object ≡ Pool x.initiator
  pub txn : e.txn ≡ x
  pub number : e.number ≡ k
  pub slot : ℕ
  pub what : e.what ≡ Acquire slot

-- the Release of x numbered k
pub record IsRelease (x : TxnId) (k : ℕ) (freed : Bool) (e : Event) : Type 0 where
  pub object : e.object ≡ Pool x.initiator
  pub txn : e.txn ≡ x
  pub number : e.number ≡ k
  pub slot : ℕ
  pub what : e.what ≡ Release slot freed

-- freed or not
pub record IsReleased (x : TxnId) (k : ℕ) (e : Event) : Type 0 where
  pub freed : Bool
  pub release : IsRelease x k freed e

pub record IsAccess (x : TxnId) (e : Event) : Type 0 where
  pub memory : ℕ
  pub object : e.object ≡ Memory memory
  pub txn : e.txn ≡ x
  pub way : Way
  pub access : Access
  pub status : Response
  pub got : List ℕ
  pub what : e.what ≡ Accessed way access status got

-- how many of the entries are Acquires of x
abbrev pub acquire_by : Bool → What → ℕ
acquire_by true (Acquire slot) = 1
acquire_by own what = 0

abbrev pub acquires : TxnId → List Entry → ℕ
acquires x [] = 0
acquires x (e ∷ es) = acquire_by (is_of x e) e.what + acquires x es

-- In a history the references of a transaction are numbered by the order of its Acquires. The numbers of Releases are left
-- open: no point of a whole history reads them.
abbrev pub number_in : List Entry → TxnId → What → ℕ
number_in before x (Acquire slot) = acquires x (entries_at (Pool x.initiator) before)
number_in before x what = 0

abbrev pub numbered_from : List Entry → List Entry → List Event
numbered_from before [] = []
numbered_from before (e ∷ es) = record { entry = e; number = number_in before e.txn e.what } ∷ numbered_from (before ++ e ∷ []) es

abbrev pub numbered : List Entry → List Event
numbered h = numbered_from [] h
