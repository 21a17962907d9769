-- What a step of an actor adds: one entry at most, and which entries are whose.
use Rattle.std.specs.Prelude.{ℕ, ◌≡◌, ◌<◌, ◌≤◌, List, length, Some}
use Rattle.view_lists.specs.Lists.{Has}
use Rattle.one_history.specs.declared.entry.Entry.{Entry}
use Rattle.one_history.specs.declared.view.View.{View}
use Rattle.tlm_types.specs.declared.entry.Content.{Content}
use Rattle.tlm_types.specs.declared.words.TxnId.{TxnId}
use Rattle.tlm_model.specs.declared.platform.Target.{Target}
use Rattle.tlm_model.specs.declared.platform.Target.TheVariants.{Memory, Router}
use Rattle.tlm_model.specs.Plan.{Plan}
use Rattle.flow_model.specs.World.{Passage}
use Rattle.flow_model.specs.Platform.{passage_of}
use Rattle.route_plan.specs.Valid.{hop_count}
use Rattle.plat_net.specs.Places.{LeadsTo, first_hop, hop_place, memory_place, own_pool}
use Rattle.node_hops.specs.declared.node.OneStep.{OneStep}
use Rattle.node_hops.specs.declared.node.OneStep.TheVariants.{Made}

-- An entry was added at the object of this number, past all that the note had seen, and the note that comes back knows it.
pub record AddsAt (number : ℕ) (note back : View Content Plan) : Type 0 where
  pub entry : Entry Content
  pub has : Has back.known entry
  pub late : note.seen ≤ entry.position
  pub object : entry.object ≡ number

-- and it is of this transaction
pub record AddsOf (number : ℕ) (x : TxnId) (note back : View Content Plan) : Type 0 where
  pub added : AddsAt number note back
  pub txn : added.entry.content.txn ≡ x

-- One of these entries has come to be known, past all that were known before.
pub record HasNew (is_one : Entry Content → Type 0) (known back : List (Entry Content)) : Type 0 where
  pub entry : Entry Content
  pub has : Has back entry
  pub past : (e : Entry Content) → Has known e → e.position < entry.position
  pub is : is_one entry

-- a step that has made an entry has made one of these
abbrev pub StepAdds : (Entry Content → Type 0) → OneStep → List (Entry Content) → List (Entry Content) → Type 0
StepAdds is_one step known back = step ≡ Made → HasNew is_one known back

-- an entry of this initiator at a memory
pub record IsAccessOf (p : Plan) (i : ℕ) (e : Entry Content) : Type 0 where
  pub memory : ℕ
  pub there : memory < length p.platform.memories
  pub object : e.object ≡ memory_place p memory
  pub own : e.content.txn.initiator ≡ i

-- The entry is one of a four-phase initiator itself: at its hop, at its pool, or one of its own at a memory.
pub data IsByPort (p : Plan) (i : ℕ) (e : Entry Content) : Type 0 where
  OnOwnHop : e.object ≡ first_hop p i → IsByPort p i e
  OfOwnPool : e.object ≡ own_pool p i → IsByPort p i e
  Accesses : IsAccessOf p i e → IsByPort p i e

-- the hops at which a component makes calls, and the memories at which it makes accesses
abbrev pub CallsAt : Plan → Target → ℕ → Type 0
CallsAt p (Memory m) hop = LeadsTo p.platform hop (Memory m)
CallsAt p (Router r) hop = hop < hop_count p.platform

abbrev pub ServesAt : Plan → Target → ℕ → Type 0
ServesAt p (Memory m) memory = memory ≡ m
ServesAt p (Router r) memory = memory < length p.platform.memories

-- an access of a four-phase initiator at a memory
pub record IsServedAt (p : Plan) (to : Target) (e : Entry Content) : Type 0 where
  pub memory : ℕ
  pub serves : ServesAt p to memory
  pub object : e.object ≡ memory_place p memory
  pub pass : Passage
  pub passes : passage_of p e.content.txn ≡ Some pass

-- The entry is one of a memory or a router: a call on a hop, an access that it serves, or of a pool.
pub data IsByNode (p : Plan) (to : Target) (e : Entry Content) : Type 0 where
  OnHop : (hop : ℕ) → CallsAt p to hop → e.object ≡ hop_place p hop → IsByNode p to e
  Serves : IsServedAt p to e → IsByNode p to e
  OfPool : (i : ℕ) → i < length p.platform.initiators → e.object ≡ own_pool p i → IsByNode p to e
