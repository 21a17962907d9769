-- What holds of an access whose payload is back in its pool.
use Rattle.std.specs.Prelude.{None, ℕ, ◌≡◌, ◌<◌, List, ◌⊎◌, Some, IsTrue}
use Rattle.tlm_types.specs.declared.words.ObjectNo.TheVariants.{Pool}
use Rattle.tlm_types.specs.declared.entry.Entry.{Entry}
use Rattle.tlm_types.specs.declared.words.TxnId.{TxnId}
use Rattle.tlm_model.specs.Each.{AtEach}
use Rattle.tlm_model.specs.History.{entries_at}
use Rattle.flow_model.specs.Calls.{calls_of}
use Rattle.flow_model.specs.Table.{sequences_of}
use Rattle.flow_model.specs.World.{World, Passage, hop_count, hop_at, row_of}
use Rattle.flow_model.specs.Events.{Event, Among, Finds, IsAcquire, IsAccess, IsFreedOf, IsReleased, IsTakeOf, acquires, entries, hop_log}
use Rattle.flow_model.specs.Numbers.{ReqIs, ArrIs, UpIs, RspIs, EndIs, released_hop}
use Rattle.flow_model.specs.Pools.{IsPoolLog, slots_after}
use Rattle.flow_model.specs.Slots.{no_slots}
use Rattle.flow_model.specs.Points.{IsFreed}
use Rattle.flow_model.specs.Law.{Premises}

-- a whole sequence on each of its hops, an Acquire and a Release for each, the Release of its initiator's own reference, the times
-- of the Releases, and its Access
pub record IsDone (w : World) (h : List Event) (x : TxnId) (pass : Passage) : Type 0 where
  pub whole : (k : ℕ) → k < hop_count pass → Among (sequences_of (row_of w pass k) (w.hop (hop_at pass k)).resp) (calls_of x (hop_log (hop_at pass k) h))
  pub acquired : (k : ℕ) → k < hop_count pass → Finds (Among h) (IsAcquire x k)
  pub released : (k : ℕ) → (k < hop_count pass) ⊎ (k ≡ 15) → Finds (Among h) (IsReleased x k)
  pub release_times : (k : ℕ) (e : Event) → Among h e → IsReleased x k e → EndIs w (Among h) x pass (released_hop k) e.time
  pub served : IsTrue pass.routed → Finds (Among h) (IsAccess x)

abbrev pub EndingLaw : Type 0
EndingLaw = (w : World) (slots : ℕ → ℕ) (issued : List Entry → TxnId → ℕ) (h : List Event) → Premises w slots issued h →
    (x : TxnId) (pass : Passage) → w.passage x ≡ Some pass → Finds (Among h) (IsFreed x) → IsDone w h x pass

-- each of the times that the entries of an access give is one number
pub record IsOneNumber (w : World) (h : List Event) (x : TxnId) (pass : Passage) (k : ℕ) : Type 0 where
  pub req : (s t : ℕ) → ReqIs w (Among h) x (hop_at pass k) s → ReqIs w (Among h) x (hop_at pass k) t → s ≡ t
  pub arr : (s t : ℕ) → ArrIs w (Among h) x pass k s → ArrIs w (Among h) x pass k t → s ≡ t
  pub up : (s t : ℕ) → UpIs w (Among h) x pass k s → UpIs w (Among h) x pass k t → s ≡ t
  pub rsp : (s t : ℕ) → RspIs w (Among h) x pass k s → RspIs w (Among h) x pass k t → s ≡ t
  pub end : (s t : ℕ) → EndIs w (Among h) x pass k s → EndIs w (Among h) x pass k t → s ≡ t

abbrev pub NumbersLaw : Type 0
NumbersLaw = (w : World) (slots : ℕ → ℕ) (issued : List Entry → TxnId → ℕ) (h : List Event) → Premises w slots issued h →
    (x : TxnId) (pass : Passage) → w.passage x ≡ Some pass → (k : ℕ) → IsOneNumber w h x pass k

-- the number of an Acquire is the number of those of its transaction before it
abbrev pub CountLaw : Type 0
CountLaw = (w : World) (slots : ℕ → ℕ) (issued : List Entry → TxnId → ℕ) (h : List Event) → Premises w slots issued h →
    AtEach (λ before e. (x : TxnId) (n : ℕ) → IsAcquire x n e → n ≡ acquires x (entries_at (Pool x.initiator) (entries before))) h

-- where no slot of a pool is live, each transaction that was taken has its freed Release
abbrev pub AllFreedLaw : Type 0
AllFreedLaw = (slots : ℕ) (log : List Event) → IsPoolLog slots log → ((k : ℕ) → slots_after no_slots log k ≡ None) →
    (x : TxnId) → Finds (Among log) (IsTakeOf x) → Finds (Among log) (IsFreedOf x)
