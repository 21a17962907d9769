-- What the backing of an entry says, by what the entry is.
use Rattle.std.proofs.Common.{◌≡◌, ℕ, Option, Some, None, Bool, refl, subst}
use Rattle.tlm_types.specs.declared.words.ObjectNo.{ObjectNo}
use Rattle.tlm_types.specs.declared.words.ObjectNo.TheVariants.{Hop, Pool}
use Rattle.tlm_types.specs.declared.words.Phase.{Phase}
use Rattle.tlm_types.specs.declared.words.TlmSync.{TlmSync}
use Rattle.tlm_types.specs.declared.words.TxnId.{TxnId}
use Rattle.tlm_types.specs.declared.entry.What.{What}
use Rattle.tlm_types.specs.declared.entry.What.TheVariants.{Call, Acquire, Release}
use Rattle.flow_model.specs.Backed.{IsBacked, BackedBy, CallBacked, AcquireBacked, ReleaseBacked}
use Rattle.flow_model.specs.Events.{Event, IsCall, IsAcquire, IsRelease}
use Rattle.flow_model.specs.World.{World, Passage}

pub record BackedCall (w : World) (K : Event → Type 0) (x : TxnId) (o : ℕ) (p : Phase) (t : ℕ) : Type 0 where
  pub passage : Passage
  pub is : w.passage x ≡ Some passage
  pub call : CallBacked w K x passage o t p

pub backed_call : (w : World) (K : Event → Type 0) (x : TxnId) (o : ℕ) (p : Phase) (a : TlmSync) (e : Event) → IsBacked w K e → IsCall x o p a e → BackedCall w K x o p e.time
backed_call w K x o p a e b c = go (w.passage x) refl (
    subst (λ (y : TxnId). BackedBy w K y (w.passage y) (Hop o) e.time e.number (Call p a)) c.txn (
    subst (λ (d : ObjectNo). BackedBy w K e.txn (w.passage e.txn) d e.time e.number (Call p a)) c.object (
    subst (λ (v : What). BackedBy w K e.txn (w.passage e.txn) e.object e.time e.number v) c.what b)))
  where
    go : (f : Option Passage) → w.passage x ≡ f → BackedBy w K x f (Hop o) e.time e.number (Call p a) → BackedCall w K x o p e.time
    go None q d = absurd d
    go (Some pass) q d = record { passage = pass; is = q; call = d }

pub record BackedAcquire (w : World) (K : Event → Type 0) (x : TxnId) (n : ℕ) (t : ℕ) : Type 0 where
  pub passage : Passage
  pub is : w.passage x ≡ Some passage
  pub acquire : AcquireBacked w K x passage n t

pub backed_acquire : (w : World) (K : Event → Type 0) (x : TxnId) (n : ℕ) (e : Event) → IsBacked w K e → IsAcquire x n e → BackedAcquire w K x n e.time
backed_acquire w K x n e b c = go (w.passage x) refl (
    subst (λ (y : TxnId). BackedBy w K y (w.passage y) (Pool x.initiator) e.time n (Acquire c.slot)) c.txn (
    subst (λ (m : ℕ). BackedBy w K e.txn (w.passage e.txn) (Pool x.initiator) e.time m (Acquire c.slot)) c.number (
    subst (λ (d : ObjectNo). BackedBy w K e.txn (w.passage e.txn) d e.time e.number (Acquire c.slot)) c.object (
    subst (λ (v : What). BackedBy w K e.txn (w.passage e.txn) e.object e.time e.number v) c.what b))))
  where
    go : (f : Option Passage) → w.passage x ≡ f → BackedBy w K x f (Pool x.initiator) e.time n (Acquire c.slot) → BackedAcquire w K x n e.time
    go None q d = absurd d
    go (Some pass) q d = record { passage = pass; is = q; acquire = d.1 }

pub record BackedRelease (w : World) (K : Event → Type 0) (x : TxnId) (n : ℕ) (t : ℕ) : Type 0 where
  pub passage : Passage
  pub is : w.passage x ≡ Some passage
  pub release : ReleaseBacked w K x passage n t

pub backed_release : (w : World) (K : Event → Type 0) (x : TxnId) (n : ℕ) (freed : Bool) (e : Event) → IsBacked w K e → IsRelease x n freed e → BackedRelease w K x n e.time
backed_release w K x n freed e b c = go (w.passage x) refl (
    subst (λ (y : TxnId). BackedBy w K y (w.passage y) (Pool x.initiator) e.time n (Release c.slot freed)) c.txn (
    subst (λ (m : ℕ). BackedBy w K e.txn (w.passage e.txn) (Pool x.initiator) e.time m (Release c.slot freed)) c.number (
    subst (λ (d : ObjectNo). BackedBy w K e.txn (w.passage e.txn) d e.time e.number (Release c.slot freed)) c.object (
    subst (λ (v : What). BackedBy w K e.txn (w.passage e.txn) e.object e.time e.number v) c.what b))))
  where
    go : (f : Option Passage) → w.passage x ≡ f → BackedBy w K x f (Pool x.initiator) e.time n (Release c.slot freed) → BackedRelease w K x n e.time
    go None q d = absurd d
    go (Some pass) q d = record { passage = pass; is = q; release = d.1 }
