-- What an initiator that has finished knows of its own entries, and what its wallet has left.
use Rattle.std.specs.Prelude.{ℕ, ◌≡◌, ◌+◌, ◌<◌, ◌≤◌, List, length, sum_by, IsTrue, Some}
use Rattle.view_lists.specs.Lists.{AreDistinct, Has, Within}
use Rattle.tlm_types.specs.declared.words.ObjectNo.{ObjectNo}
use Rattle.tlm_types.specs.declared.words.ObjectNo.TheVariants.{Memory, Hop, Pool}
use Rattle.tlm_types.specs.declared.words.TxnId.{TxnId}
use Rattle.tlm_types.specs.declared.entry.Entry.{Entry}
use Rattle.tlm_model.specs.History.{entries_at}
use Rattle.tlm_model.specs.Plan.{Plan, Initiator}
use Rattle.tlm_model.specs.Scripts.{is_answer}
use Rattle.flow_model.specs.World.{World, Passage, hop_at, hop_count}
use Rattle.flow_model.specs.Events.{Among, Event, FindsAt, IsTake, entries}
use Rattle.flow_model.specs.Called.{HasCalled}
use Rattle.flow_model.specs.Platform.{passage_of, world_of}
use Rattle.good_history.specs.Counting.{IsRising}
use Rattle.good_history.specs.Joined.{EndsOwn, KeepsOwn}
use Rattle.route_plan.specs.Counted.{share_at}
use Rattle.joined_traffic.specs.Accesses.{accesses_at, entries_of}

-- An access that was issued at this time and has come back: its Take, and its calls on each of its hops.
pub record IsDriven (w : World) (K : Event → Type 0) (x : TxnId) (pass : Passage) (issued : ℕ) (calls : ℕ → ℕ) : Type 0 where
  pub taken : FindsAt K (IsTake x) issued
  pub called : (k : ℕ) → k < hop_count pass → HasCalled w K x pass k (calls (hop_at pass k))

-- how many entries an initiator has made at an object: its own entries at memories, and those of its accesses elsewhere
abbrev pub spent_at : Plan → (TxnId → ℕ → ℕ) → List Entry → ℕ → ObjectNo → ℕ
spent_at p calls mine k (Memory m) = length (entries_at (Memory m) mine)
spent_at p calls mine k (Hop o) = sum_by (entries_of p calls (Hop o)) (accesses_at p (Hop o) k)
spent_at p calls mine k (Pool i) = sum_by (entries_of p calls (Pool i)) (accesses_at p (Pool i) k)

-- Initiator k knows its entries at memories, of which none stands twice, and its tickets are spent on its entries or left: no more of them may be gone.
pub record HasPaid (p : Plan) (h : List Event) (calls : TxnId → ℕ → ℕ) (k : ℕ) (mine : List Entry) (left : ObjectNo → ℕ) : Type 0 where
  pub within : Within mine (entries h)
  pub distinct : AreDistinct mine
  pub own : (e : Entry) → Has mine e → e.txn.initiator ≡ k
  pub paid : (o : ObjectNo) → share_at p k o ≤ spent_at p calls mine k o + left o

-- It is a four-phase initiator: it has driven its accesses. A request has one answer at a memory at most, and an access without a route has no
-- entry there.
pub record HasDriven (p : Plan) (h : List Event) (issued : TxnId → ℕ) (calls : TxnId → ℕ → ℕ) (k : ℕ) (mine : List Entry) : Type 0 where
  pub driven : (x : TxnId) (pass : Passage) → passage_of p x ≡ Some pass → x.initiator ≡ k → IsDriven (world_of p) (Among h) x pass (issued x) (calls x)
  pub once : (e f : Entry) → Has mine e → Has mine f → e.txn ≡ f.txn → IsTrue (is_answer e.what) → IsTrue (is_answer f.what) → e ≡ f
  pub routed : (x : TxnId) (pass : Passage) (e : Entry) → passage_of p x ≡ Some pass → Has mine e → e.txn ≡ x → IsTrue pass.routed

-- Another initiator: its own entries, in order, run its script, by which all that it asks for is settled.
pub record HasRun (p : Plan) (i : Initiator) (mine : List Entry) : Type 0 where
  pub rising : IsRising (λ e. e.position) mine
  pub keeps : KeepsOwn p mine
  pub ended : EndsOwn p.platform i mine
