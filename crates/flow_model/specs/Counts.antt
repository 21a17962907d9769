-- The log of a payload pool without the numbers of its references: each live slot has its transaction and its count of
-- references (IEEE 1666-2011, clause 14.5).
use Rattle.std.specs.Prelude.{ℕ, ◌≡◌, ◌+◌, ◌-◌, List, [], ◌∷◌, Option, Some, None, Bool, true, if◌then◌else◌, ◌==◌, MatchOption}
use Rattle.std.specs.List.{flat_map}
use Rattle.tlm_types.specs.declared.words.TxnId.{TxnId}
use Rattle.tlm_types.specs.declared.entry.Entry.{Entry}
use Rattle.tlm_types.specs.declared.entry.What.{What}
use Rattle.tlm_types.specs.declared.entry.What.TheVariants.{Take, Acquire, Release}
use Rattle.tlm_model.specs.Each.{AtEach}
use Rattle.flow_model.specs.Calls.{is_of}
use Rattle.flow_model.specs.Slots.{SlotsOf, TakesLeast, no_slots, put}

pub record Counted : Type 0 where
  pub txn : TxnId
  pub count : ℕ

-- the live slots
abbrev pub Counts : Type 0
Counts = SlotsOf Counted

abbrev pub one_more : Option Counted → Option Counted
one_more None = None
one_more (Some c) = Some (record { txn = c.txn; count = c.count + 1 })

-- a slot whose count becomes 0 isn't live
abbrev pub one_less : Option Counted → Option Counted
one_less None = None
one_less (Some c) = if c.count == 1 then None else Some (record { txn = c.txn; count = c.count - 1 })

abbrev pub counts_by : Counts → TxnId → What → Counts
counts_by s x (Take k) = put s k (Some (record { txn = x; count = 1 }))
counts_by s x (Acquire k) = put s k (one_more (s k))
counts_by s x (Release k freed) = put s k (one_less (s k))
counts_by s x _ = s

abbrev pub counts_after : Counts → List Entry → Counts
counts_after s [] = s
counts_after s (e ∷ es) = counts_after (counts_by s e.txn e.what) es

-- an Acquire or Release names a live slot of its transaction; the Release that makes the count 0 is freed, and no other
abbrev pub CountStep : ℕ → Counts → TxnId → What → Type 0
CountStep slots s x (Take k) = TakesLeast slots s k
CountStep slots s x (Acquire k) = MatchOption (s k) ⊥ (λ c. c.txn ≡ x)
CountStep slots s x (Release k freed) = MatchOption (s k) ⊥ (λ c. (c.txn ≡ x) × (freed ≡ (c.count == 1)))
CountStep slots s x _ = ⊥

abbrev pub KeepsCounts : ℕ → List Entry → Type 0
KeepsCounts slots log = AtEach (λ before e. CountStep slots (counts_after no_slots before) e.txn e.what) log

-- how many Takes and Releases of x the log has
abbrev pub take_by : Bool → What → ℕ
take_by true (Take k) = 1
take_by own what = 0

abbrev pub takes : TxnId → List Entry → ℕ
takes x [] = 0
takes x (e ∷ es) = take_by (is_of x e) e.what + takes x es

-- the times of the Releases of x
abbrev pub release_time_by : Bool → What → ℕ → List ℕ
release_time_by true (Release k freed) t = t ∷ []
release_time_by own what t = []

abbrev pub release_times : TxnId → List Entry → List ℕ
release_times x log = flat_map (λ (e : Entry). release_time_by (is_of x e) e.what e.time) log

-- no transaction has a Take twice
abbrev pub TakesAtMostOnce : List Entry → Type 0
TakesAtMostOnce log = AtEach (λ before e. take_by true e.what ≡ 1 → takes e.txn before ≡ 0) log
