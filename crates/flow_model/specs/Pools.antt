-- The log of a payload pool: the lives of its slots (IEEE 1666-2011, clause 14.5: a pooled payload counts its references).
use Rattle.std.specs.Prelude.{ℕ, ◌≡◌, ◌+◌, ◌<◌, List, [], ◌∷◌, length, Option, Some, None, Bool, true, false, ◌⊎◌, ◌==◌}
use Rattle.tlm_types.specs.declared.words.TxnId.{TxnId}
use Rattle.tlm_types.specs.declared.entry.What.{What}
use Rattle.tlm_types.specs.declared.entry.What.TheVariants.{Take, Acquire, Release}
use Rattle.tlm_model.specs.Each.{AtEach}
use Rattle.flow_model.specs.Events.{Event, Among, Finds, IsTakeOf}
use Rattle.flow_model.specs.Slots.{SlotsOf, TakesLeast, no_slots, put}

-- a life of a slot: its transaction, the number of its Acquires, and the numbers of its Releases. Its references are the one
-- of the Take and those of the Acquires, less those released
pub record Life : Type 0 where
  pub txn : TxnId
  pub acquired : ℕ
  pub released : List ℕ

abbrev pub Slots : Type 0
Slots = SlotsOf Life

abbrev pub more : Option Life → Option Life
more None = None
more (Some l) = Some (record { txn = l.txn; acquired = l.acquired + 1; released = l.released })

abbrev pub fewer : Option Life → ℕ → Bool → Option Life
fewer None n freed = None
fewer (Some l) n true = None
fewer (Some l) n false = Some (record { txn = l.txn; acquired = l.acquired; released = n ∷ l.released })

abbrev pub slots_by : Slots → TxnId → ℕ → What → Slots
slots_by s x n (Take k) = put s k (Some (record { txn = x; acquired = 0; released = [] }))
slots_by s x n (Acquire k) = put s k (more (s k))
slots_by s x n (Release k freed) = put s k (fewer (s k) n freed)
slots_by s x n _ = s

abbrev pub slots_after : Slots → List Event → Slots
slots_after s [] = s
slots_after s (e ∷ es) = slots_after (slots_by s e.txn e.number e.what) es

-- the slot is live, with this transaction
pub record IsLive (s : Slots) (k : ℕ) (x : TxnId) : Type 0 where
  pub life : Life
  pub is : s k ≡ Some life
  pub txn : life.txn ≡ x

-- fewer than 15: that number is left for the reference of the initiator
pub record AcquireStep (s : Slots) (k : ℕ) (x : TxnId) (n : ℕ) : Type 0 where
  pub live : IsLive s k x
  pub number : n ≡ live.life.acquired
  pub few : n < 15

-- the count before is 1 + acquired - released; the Release is freed where it becomes 0
pub record ReleaseStep (s : Slots) (k : ℕ) (x : TxnId) (n : ℕ) (freed : Bool) : Type 0 where
  pub live : IsLive s k x
  pub number : (n < live.life.acquired) ⊎ (n ≡ 15)
  pub new : ¬ Among live.life.released n
  pub is_freed : freed ≡ (length live.life.released == live.life.acquired)

abbrev pub PoolStepBy : ℕ → Slots → TxnId → ℕ → What → Type 0
PoolStepBy slots s x n (Take k) = TakesLeast slots s k
PoolStepBy slots s x n (Acquire k) = AcquireStep s k x n
PoolStepBy slots s x n (Release k freed) = ReleaseStep s k x n freed
PoolStepBy slots s x n _ = ⊥

abbrev pub IsPoolLog : ℕ → List Event → Type 0
IsPoolLog slots log = AtEach (λ before e. PoolStepBy slots (slots_after no_slots before) e.txn e.number e.what) log

-- no transaction has two Takes in the pool
abbrev pub TakesOnce : List Event → Type 0
TakesOnce log = AtEach (λ before e. (x : TxnId) → IsTakeOf x e → ¬ Finds (Among before) (IsTakeOf x)) log
