-- The law: what each entry's backing and each object's log give for the whole history.
use Rattle.std.specs.Prelude.{ℕ, ◌≡◌, ◌≤◌, List, Some, true, false}
use Rattle.tlm_types.specs.declared.words.ObjectNo.TheVariants.{Hop, Pool}
use Rattle.tlm_types.specs.declared.words.Phase.TheVariants.{BeginResp}
use Rattle.tlm_types.specs.declared.words.TlmSync.{TlmSync}
use Rattle.tlm_types.specs.declared.words.TxnId.{TxnId}
use Rattle.tlm_types.specs.declared.entry.Entry.{Entry}
use Rattle.tlm_types.specs.declared.entry.What.TheVariants.{Call as Called}
use Rattle.tlm_model.specs.Each.{AtEach}
use Rattle.tlm_model.specs.History.{entries_at}
use Rattle.tlm_model.specs.Route.{greatest_time}
use Rattle.flow_model.specs.Board.{Board, Reaches, start}
use Rattle.flow_model.specs.Calls.{has_open_request}
use Rattle.flow_model.specs.Protocol.{BeginsOnce, IsExclusive}
use Rattle.flow_model.specs.World.{World, Passage, IsWorld}
use Rattle.flow_model.specs.Events.{Event, Among, Finds, at, entries, hop_log, numbered, IsTake, IsAccess}
use Rattle.flow_model.specs.Backed.{IsBacked}
use Rattle.flow_model.specs.Pools.{IsPoolLog, TakesOnce}
use Rattle.flow_model.specs.Points.{IsInOrder, IsFreedLast, HasTable, KeepsModes, EndsInTurn, IsTimed}

-- the hop has made these calls, one after another
pub record HasSteps (w : World) (o : ℕ) (h : List Event) : Type 0 where
  pub board : Board
  pub steps : Reaches (w.hop o).rules start (hop_log o h) board

-- What single components give, each by what it knows: `slots` has the sizes of the pools, `issued` the time at which each
-- access is issued, by the history before its Take.
pub record Premises (w : World) (slots : ℕ → ℕ) (issued : List Entry → TxnId → ℕ) (h : List Event) : Type 0 where
  pub world : IsWorld w
  -- each entry is backed by those before it
  pub backed : AtEach (λ before e. IsBacked w (Among before) e) h
  -- each hop and each pool made its log
  pub hops : (o : ℕ) → HasSteps w o h
  -- which marks a BEGIN_RESP only where the request of its access is open
  pub marks : (o : ℕ) → AtEach (λ before e. (a : TlmSync) → e.what ≡ Called BeginResp a → e.number ≡ 1 → has_open_request e.txn (entries before) ≡ true) (at (Hop o) h)
  pub pools : (i : ℕ) → IsPoolLog (slots i) (at (Pool i) h)
  -- no access is taken, served or begun twice, and none without a route is served
  pub one_take : (i : ℕ) → TakesOnce (at (Pool i) h)
  pub one_access : AtEach (λ before e. (x : TxnId) → IsAccess x e → ¬ Finds (Among before) (IsAccess x)) h
  pub one_begin : (o : ℕ) → BeginsOnce (hop_log o h)
  pub unrouted : (x : TxnId) (pass : Passage) → w.passage x ≡ Some pass → pass.routed ≡ false → (e : Event) → Among h e → ¬ IsAccess x e
  pub takes : AtEach (λ before e. (x : TxnId) → IsTake x e → e.time ≡ issued (entries before) x) h
  pub times : (e : Event) → Among h e → e.time ≤ greatest_time

-- What a whole history keeps.
pub record Conclusions (w : World) (issued : List Entry → TxnId → ℕ) (h : List Entry) : Type 0 where
  pub orders : IsInOrder w (numbered h)
  pub freed_last : IsFreedLast (numbered h)
  pub ends_in_turn : EndsInTurn w (numbered h)
  pub table : HasTable w h
  pub modes : KeepsModes w h
  pub exclusive : (o : ℕ) → IsExclusive (w.hop o).limit (entries_at (Hop o) h)
  pub times : IsTimed w issued (numbered h)

abbrev pub Law : Type 0
Law = (w : World) (slots : ℕ → ℕ) (issued : List Entry → TxnId → ℕ) (h : List Event) → Premises w slots issued h → Conclusions w issued (entries h)

-- a list with more entries backs no less
abbrev pub Monotone : Type 0
Monotone = (w : World) (known more : List Event) → ((e : Event) → Among known e → Among more e) → (e : Event) → IsBacked w (Among known) e → IsBacked w (Among more) e
