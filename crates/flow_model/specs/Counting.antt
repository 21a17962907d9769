-- The end of a run: where an object has no more entries than tickets were spent, and each transaction has known entries for all
-- that it spent, the known entries are all.
use Rattle.std.specs.Prelude.{ℕ, ◌≡◌, ◌≢◌, ◌≤◌, List, length, sum_by, count_by, AllPairs}
use Rattle.tlm_types.specs.declared.words.TxnId.{TxnId}
use Rattle.tlm_types.specs.declared.entry.Entry.{Entry}
use Rattle.base_phases.specs.Sequences.{Call, IsSequence}
use Rattle.flow_model.specs.Calls.{calls_of, is_of}
use Rattle.flow_model.specs.Protocol.{BeginsOnce}
use Rattle.flow_model.specs.Events.{Event, Among, hop_log}

-- how many entries of the log are of x
abbrev pub own_count : TxnId → List Entry → ℕ
own_count x log = count_by (is_of x) log

abbrev pub AllDiffer : List TxnId → Type 0
AllDiffer xs = AllPairs (λ x y. x ≢ y) xs

-- each transaction has just as many entries as it spent, and no other transaction has one
pub record AllKnown (xs : List TxnId) (spent : TxnId → ℕ) (log : List Entry) : Type 0 where
  pub own : (x : TxnId) → Among xs x → own_count x log ≡ spent x
  pub none : (y : TxnId) → ¬ Among xs y → own_count y log ≡ 0

abbrev pub CountingLaw : Type 0
CountingLaw = (xs : List TxnId) (spent : TxnId → ℕ) (log : List Entry) → AllDiffer xs →
    ((x : TxnId) → Among xs x → spent x ≤ own_count x log) → length log ≤ sum_by spent xs → AllKnown xs spent log

-- the calls of x have a whole sequence of this length among them
pub record HasSequence (log : List Entry) (x : TxnId) (n : ℕ) : Type 0 where
  pub sequence : List Call
  pub is : IsSequence sequence
  pub long : length sequence ≡ n
  pub all : (call : Call) → Among sequence call → Among (calls_of x log) call

-- where the calls on a hop are no more than a whole sequence for each transaction, none begins twice
abbrev pub BeginsOnceLaw : Type 0
BeginsOnceLaw = (o : ℕ) (h : List Event) (xs : List TxnId) (spent : TxnId → ℕ) → AllDiffer xs →
    ((x : TxnId) → Among xs x → HasSequence (hop_log o h) x (spent x)) → length (hop_log o h) ≤ sum_by spent xs → BeginsOnce (hop_log o h)
