-- What a whole history keeps: the orders, the table and the times (IEEE 1666-2011, clause 15.2).
use Rattle.std.specs.Prelude.{ℕ, ◌≡◌, ◌+◌, ◌<◌, ◌≤◌, List, Option, Some, None, true, ◌⊎◌, IsTrue, max}
use Rattle.tlm_types.specs.declared.words.ObjectNo.{ObjectNo}
use Rattle.tlm_types.specs.declared.words.ObjectNo.TheVariants.{Memory, Hop, Pool}
use Rattle.tlm_types.specs.declared.words.Phase.{Phase}
use Rattle.tlm_types.specs.declared.words.Phase.TheVariants.{BeginReq, EndReq, BeginResp, EndResp}
use Rattle.tlm_types.specs.declared.words.TxnId.{TxnId}
use Rattle.tlm_types.specs.declared.entry.Entry.{Entry}
use Rattle.tlm_types.specs.declared.entry.What.{What}
use Rattle.tlm_types.specs.declared.entry.What.TheVariants.{Access as Accessed, Call, Take, Acquire, Release}
use Rattle.tlm_model.specs.Each.{AtEach}
use Rattle.tlm_model.specs.History.{entries_at}
use Rattle.base_phases.specs.Sequences.{IsSequence}
use Rattle.flow_model.specs.ByRules.{KeepsRules, request_end}
use Rattle.flow_model.specs.Calls.{calls_of}
use Rattle.flow_model.specs.Table.{IsBegunIn, sequences_of}
use Rattle.flow_model.specs.World.{World, Passage, hop_count, hop_at, row_of}
use Rattle.flow_model.specs.Events.{Event, Among, Finds, FindsAt, IsPhase, IsOwn, IsRelease, IsAccess, entries, hop_log}
use Rattle.flow_model.specs.Numbers.{NumberOf, ReqIs, ArrIs, EndIs, IsEnder}
use Rattle.flow_model.specs.Backed.{CallAfter, AccessAfter, AcquireAfter, EndsResponse}

-- Coverage and the span of a life: each entry stands on its access's hops and pool, after what it has to stand after.
pub record CallInOrder (w : World) (before : List Event) (x : TxnId) (pass : Passage) (o : ℕ) (p : Phase) : Type 0 where
  pub hop : ℕ
  pub below : hop < hop_count pass
  pub place : hop_at pass hop ≡ o
  pub order : CallAfter w (Among before) x pass hop p
  pub begun : p ≡ BeginReq → (j : ℕ) → hop ≡ j + 1 → Finds (Among before) (IsPhase x (hop_at pass j) BeginReq)

pub record ReleaseInOrder (before : List Event) (x : TxnId) (pass : Passage) : Type 0 where
  pub served : IsTrue pass.routed → Finds (Among before) (IsAccess x)

abbrev pub InOrderBy : World → List Event → TxnId → Option Passage → ObjectNo → ℕ → What → Type 0
InOrderBy w before x (Some pass) (Hop o) n (Call p a) = CallInOrder w before x pass o p
InOrderBy w before x (Some pass) (Pool i) n (Take s) = i ≡ x.initiator
InOrderBy w before x (Some pass) (Pool i) n (Acquire s) = (i ≡ x.initiator) × (n < hop_count pass) × AcquireAfter w (Among before) x pass n
InOrderBy w before x (Some pass) (Pool i) n (Release s freed) = (i ≡ x.initiator) × ReleaseInOrder before x pass
InOrderBy w before x (Some pass) (Memory m) n (Accessed way access status got) = AccessAfter w (Among before) x pass
InOrderBy w before x None (Hop o) n (Call p a) = ⊥
InOrderBy w before x None (Pool i) n (Take s) = ⊥
InOrderBy w before x None (Pool i) n (Acquire s) = ⊥
InOrderBy w before x None (Pool i) n (Release s freed) = ⊥
InOrderBy w before x _ _ n _ = Unit {0}

abbrev pub IsInOrder : World → List Event → Type 0
IsInOrder w h = AtEach (λ before e. InOrderBy w before e.txn (w.passage e.txn) e.object e.number e.what) h

-- the freed Release of x stands after every Call and Access of x
pub record IsFreed (x : TxnId) (e : Event) : Type 0 where
  pub number : ℕ
  pub release : IsRelease x number true e

pub record IsWork (x : TxnId) (e : Event) : Type 0 where
  pub is : ((o : ℕ) × IsOwn x o e) ⊎ IsAccess x e

abbrev pub IsFreedLast : List Event → Type 0
IsFreedLast h = AtEach (λ before e. (x : TxnId) → IsWork x e → ¬ Finds (Among before) (IsFreed x)) h

-- The calls of each access on each of its hops are a prefix of a sequence of its row.
abbrev pub HasTable : World → List Entry → Type 0
HasTable w h = (x : TxnId) (pass : Passage) → w.passage x ≡ Some pass → (k : ℕ) → k < hop_count pass →
    IsBegunIn (sequences_of (row_of w pass k) (w.hop (hop_at pass k)).resp) (calls_of x (entries_at (Hop (hop_at pass k)) h))

-- An END_RESP on a later hop stands after the whole sequence on the hop before: a router ends a response below once it has
-- ended above.
abbrev pub EndsInTurn : World → List Event → Type 0
EndsInTurn w h = AtEach (λ before e. (x : TxnId) (pass : Passage) → w.passage x ≡ Some pass → (k : ℕ) → k + 1 < hop_count pass → IsPhase x (hop_at pass (k + 1)) EndResp e → IsSequence (calls_of x (hop_log (hop_at pass k) before))) h

-- Each call is answered as the modes of the two ends say.
abbrev pub KeepsModes : World → List Entry → Type 0
KeepsModes w h = (o : ℕ) → KeepsRules (w.hop o).rules (entries_at (Hop o) h)

-- Times: the greatest of a number and of the times of these earlier calls
pub record IsLatest (before : List Event) (P : Event → Type 0) (number : ℕ) (t : ℕ) : Type 0 where
  pub least : number ≤ t
  pub after_all : (f : Event) → Among before f → P f → f.time ≤ t
  pub reached : (t ≡ number) ⊎ FindsAt (Among before) P t

-- the time of a call of x, by its phase and number
abbrev pub TimeIs : List Event → TxnId → ℕ → Phase → ℕ → ℕ → Type 0
TimeIs before x o BeginReq number t = t ≡ max number (request_end (hop_log o before))
TimeIs before x o BeginResp number t = IsLatest before (λ f. IsOwn x o f ⊎ EndsResponse o f) number t
TimeIs before x o EndReq number t = t ≡ number
TimeIs before x o EndResp number t = t ≡ number

pub record CallTimed (w : World) (before : List Event) (x : TxnId) (pass : Passage) (o : ℕ) (p : Phase) (t : ℕ) : Type 0 where
  pub hop : ℕ
  pub below : hop < hop_count pass
  pub place : hop_at pass hop ≡ o
  pub number : ℕ
  pub is_number : NumberOf w (Among before) x pass hop p number
  pub time : TimeIs before x o p number t

pub record ReleaseTimed (w : World) (before : List Event) (x : TxnId) (pass : Passage) (t : ℕ) : Type 0 where
  pub hop : ℕ
  pub below : hop < hop_count pass
  pub ended : Finds (Among before) (IsEnder x (hop_at pass hop))
  pub time : EndIs w (Among before) x pass hop t

abbrev pub TimedBy : World → (List Entry → TxnId → ℕ) → List Event → TxnId → Option Passage → ObjectNo → ℕ → ℕ → What → Type 0
TimedBy w issued before x (Some pass) (Hop o) t n (Call p a) = CallTimed w before x pass o p t
TimedBy w issued before x (Some pass) (Pool i) t n (Take s) = t ≡ issued (entries before) x
TimedBy w issued before x (Some pass) (Pool i) t n (Acquire s) = ArrIs w (Among before) x pass n t
TimedBy w issued before x (Some pass) (Pool i) t n (Release s freed) = ReleaseTimed w before x pass t
TimedBy w issued before x (Some pass) (Memory m) t n (Accessed way access status got) = (k : ℕ) → k + 1 ≡ hop_count pass → ReqIs w (Among before) x (hop_at pass k) t
TimedBy w issued before x _ _ t n _ = Unit {0}

abbrev pub IsTimed : World → (List Entry → TxnId → ℕ) → List Event → Type 0
IsTimed w issued h = AtEach (λ before e. TimedBy w issued before e.txn (w.passage e.txn) e.object e.time e.number e.what) h
