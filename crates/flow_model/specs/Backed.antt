-- Which known entries back an entry: those that it stands after, and those that give its time.
use Rattle.std.specs.Prelude.{ℕ, ◌≡◌, ◌+◌, ◌<◌, true, Option, Some, None, ◌⊎◌, IsTrue}
use Rattle.tlm_types.specs.declared.words.ObjectNo.{ObjectNo}
use Rattle.tlm_types.specs.declared.words.ObjectNo.TheVariants.{Memory, Hop, Pool}
use Rattle.tlm_types.specs.declared.words.Phase.{Phase}
use Rattle.tlm_types.specs.declared.words.Phase.TheVariants.{BeginReq, EndReq, BeginResp, EndResp}
use Rattle.tlm_types.specs.declared.words.TlmSync.{TlmSync}
use Rattle.tlm_types.specs.declared.words.TlmSync.TheVariants.{Accepted}
use Rattle.tlm_types.specs.declared.words.TxnId.{TxnId}
use Rattle.tlm_types.specs.declared.words.ReqMode.TheVariants.{Accept}
use Rattle.tlm_types.specs.declared.entry.What.{What}
use Rattle.tlm_types.specs.declared.entry.What.TheVariants.{Access as Accessed, Call, Take, Acquire, Release}
use Rattle.flow_model.specs.Board.{ends_response}
use Rattle.flow_model.specs.World.{World, Passage, hop_count, hop_at, row_of}
use Rattle.flow_model.specs.Events.{Event, Finds, FindsAt, IsCall, IsPhase, IsOwn, IsTake, IsAcquire, IsAccess}
use Rattle.flow_model.specs.Numbers.{IsEnder, IsResponse, NumberOf, ReqIs, ArrIs, EndIs, released_hop}

-- Calls that end a request: END_REQ, a BEGIN_REQ that is answered otherwise than ACCEPTED, a BEGIN_RESP that implies END_REQ. The last has the
-- number 1: only the hop knows whether the request was still open, so it marks the entry.
abbrev pub EndsRequestBy : ℕ → Phase → TlmSync → Type 0
EndsRequestBy n EndReq a = Unit {0}
EndsRequestBy n BeginReq Accepted = ⊥
EndsRequestBy n BeginReq _ = Unit {0}
EndsRequestBy n BeginResp a = n ≡ 1
EndsRequestBy n EndResp a = ⊥

pub record EndsRequest (o : ℕ) (e : Event) : Type 0 where
  pub phase : Phase
  pub answer : TlmSync
  pub call : IsCall e.txn o phase answer e
  pub ends : EndsRequestBy e.number phase answer

-- calls that end a response: END_RESP, a BEGIN_RESP that is answered otherwise than ACCEPTED
pub record EndsResponse (o : ℕ) (e : Event) : Type 0 where
  pub phase : Phase
  pub answer : TlmSync
  pub call : IsCall e.txn o phase answer e
  pub ends : ends_response phase answer ≡ true

-- the calls that may delay a call on the hop
abbrev pub Delays : ℕ → Phase → Event → Type 0
Delays o BeginReq f = EndsRequest o f
Delays o EndReq f = ⊥
Delays o BeginResp f = EndsResponse o f
Delays o EndResp f = ⊥

-- what an entry of x stands after, and what gives its time, as far as the entries K are known
module _ (w : World) (K : Event → Type 0) (x : TxnId) where
  -- the entries after which each entry stands, by its kind: a call on hop k, and the entries of pools and memories
  pub record BeginReqAfter (pass : Passage) (k : ℕ) : Type 0 where
    pub taken : Finds K (IsTake x)
    pub acquired : Finds K (IsAcquire x k)

  pub record EndReqAfter (pass : Passage) (k : ℕ) : Type 0 where
    pub taken : Finds K (IsTake x)
    pub passed : k + 1 < hop_count pass → Finds K (IsPhase x (hop_at pass (k + 1)) BeginReq)

  pub record BeginRespAfter (pass : Passage) (k : ℕ) : Type 0 where
    pub taken : Finds K (IsTake x)
    pub served : IsTrue pass.routed → Finds K (IsAccess x)
    pub answered : k + 1 < hop_count pass → Finds K (IsResponse x (hop_at pass (k + 1)))

  pub record EndRespAfter (pass : Passage) (k : ℕ) : Type 0 where
    pub taken : Finds K (IsTake x)
    pub ended : (j : ℕ) → k ≡ j + 1 → Finds K (IsEnder x (hop_at pass j))

  abbrev pub CallAfter : Passage → ℕ → Phase → Type 0
  CallAfter pass k BeginReq = BeginReqAfter pass k
  CallAfter pass k EndReq = EndReqAfter pass k
  CallAfter pass k BeginResp = BeginRespAfter pass k
  CallAfter pass k EndResp = EndRespAfter pass k

  pub record AccessAfter (pass : Passage) : Type 0 where
    pub taken : Finds K (IsTake x)
    pub begun : (k : ℕ) → k + 1 ≡ hop_count pass → Finds K (IsPhase x (hop_at pass k) BeginReq)

  pub record AcquireAfter (pass : Passage) (n : ℕ) : Type 0 where
    pub begun : (j : ℕ) → n ≡ j + 1 → Finds K (IsPhase x (hop_at pass j) BeginReq)

  -- the number, or a greater time of an earlier call on the hop
  pub record TimeBacked (pass : Passage) (k : ℕ) (p : Phase) (t : ℕ) : Type 0 where
    pub number : ℕ
    pub is_number : NumberOf w K x pass k p number
    pub time : (t ≡ number) ⊎ ((number < t) × FindsAt K (λ f. IsOwn x (hop_at pass k) f ⊎ Delays (hop_at pass k) p f) t)

  -- the sequences 6 to 8 have their END_REQ, the others have none
  abbrev pub SequenceBacked : Passage → ℕ → Phase → Type 0
  SequenceBacked pass k EndReq = row_of w pass k ≡ Accept
  SequenceBacked pass k BeginResp = row_of w pass k ≡ Accept → Finds K (IsPhase x (hop_at pass k) EndReq)
  SequenceBacked pass k BeginReq = Unit {0}
  SequenceBacked pass k EndResp = Unit {0}

  pub record CallBacked (pass : Passage) (o : ℕ) (t : ℕ) (p : Phase) : Type 0 where
    pub hop : ℕ
    pub below : hop < hop_count pass
    pub place : hop_at pass hop ≡ o
    pub order : CallAfter pass hop p
    pub time : TimeBacked pass hop p t
    pub sequence : SequenceBacked pass hop p

  pub record AcquireBacked (pass : Passage) (n : ℕ) (t : ℕ) : Type 0 where
    pub below : n < hop_count pass
    pub order : AcquireAfter pass n
    pub time : ArrIs w K x pass n t

  pub record ReleaseBacked (pass : Passage) (n : ℕ) (t : ℕ) : Type 0 where
    pub below : released_hop n < hop_count pass
    pub ended : Finds K (IsEnder x (hop_at pass (released_hop n)))
    pub time : EndIs w K x pass (released_hop n) t
    pub served : IsTrue pass.routed → Finds K (IsAccess x)

  pub record AccessBacked (pass : Passage) (t : ℕ) : Type 0 where
    pub order : AccessAfter pass
    pub time : (k : ℕ) → k + 1 ≡ hop_count pass → ReqIs w K x (hop_at pass k) t

  abbrev pub BackedBy : Option Passage → ObjectNo → ℕ → ℕ → What → Type 0
  BackedBy (Some pass) (Hop o) t n (Call p a) = CallBacked pass o t p
  BackedBy (Some pass) (Pool i) t n (Take s) = i ≡ x.initiator
  BackedBy (Some pass) (Pool i) t n (Acquire s) = (i ≡ x.initiator) × AcquireBacked pass n t
  BackedBy (Some pass) (Pool i) t n (Release s freed) = (i ≡ x.initiator) × ReleaseBacked pass n t
  BackedBy (Some pass) (Memory m) t n (Accessed way access status got) = AccessBacked pass t
  BackedBy None (Hop o) t n (Call p a) = ⊥
  BackedBy None (Pool i) t n (Take s) = ⊥
  BackedBy None (Pool i) t n (Acquire s) = ⊥
  BackedBy None (Pool i) t n (Release s freed) = ⊥
  BackedBy _ _ t n _ = Unit {0}

-- the known entries back the entry
abbrev pub IsBacked : World → (Event → Type 0) → Event → Type 0
IsBacked w K e = BackedBy w K e.txn (w.passage e.txn) e.object e.time e.number e.what
