-- The entries that a port's moves add are its own.
use Rattle.std.proofs.Common.{◌≡◌, ℕ, ◌<◌, Bool, true, false, length, ap, ◌∙◌, subst, sym}
use Rattle.atomic_table.specs.Seated.{TableId}
use Rattle.one_history.specs.declared.entry.Entry.{Entry}
use Rattle.one_history.specs.declared.view.Frame.{Frame}
use Rattle.one_history.specs.declared.view.View.{View}
use Rattle.one_history.specs.Lists.{StandBelow}
use Rattle.tlm_types.specs.declared.entry.Content.{Content}
use Rattle.tlm_types.specs.declared.words.TxnId.{TxnId}
use Rattle.tlm_model.specs.Plan.{Plan}
use Rattle.region_object.specs.declared.call.RegionReply.{RegionReply}
use Rattle.hop_object.specs.declared.call.HopCall.{HopCall}
use Rattle.hop_object.specs.declared.call.HopReply.{HopReply}
use Rattle.payload_pool.specs.declared.call.PoolCall.{PoolCall}
use Rattle.payload_pool.specs.declared.call.PoolCall.TheVariants.{Acquire}
use Rattle.payload_pool.specs.declared.call.PoolReply.TheVariants.{Acquired, Released}
use Rattle.cargo_model.specs.declared.cargo.Cargo.{Cargo}
use Rattle.cargo_net.specs.Hops.{HasAnswered}
use Rattle.cargo_net.specs.Memories.{HasServedCall}
use Rattle.cargo_net.specs.Pools.{HasAcquiredOne, HasPooled}
use Rattle.cargo_net.specs.Serves.{access_call}
use Rattle.plat_net.proofs.NumberLemmas.{memory_number}
use Rattle.node_hops.specs.Laws.{IsMadeOnHop, IsNewOf}
use Rattle.node_hops.specs.Steps.{AddsAt, AddsOf, HasNew, IsByPort}
use Rattle.node_hops.specs.Steps.IsByPort.{OnOwnHop, OfOwnPool, Accesses}
use Rattle.node_hops.proofs.Adds.{hop_adds, pool_adds, serve_adds}
use Rattle.node_hops.proofs.News.{new_at, new_by, new_of}
use Rattle.port_moves.specs.Moved.{ends}
use Rattle.port_moves.specs.Reach.{first_hop, memory_place, own_pool}
use Rattle.port_moves.specs.declared.hand.Moved.{Moved}
use Rattle.port_moves.specs.declared.hand.Pumped.{Pumped}

module _ (p : Plan) (n : ℕ) (note back : View Content Plan) (below : StandBelow note.known note.seen) where
  -- at its pool, at its hop, or of its own at a memory
  pub in_pool : AddsAt (own_pool p n) note back → HasNew (IsByPort p n) note.known back.known
  in_pool a = new_by (λ (e : Entry Content). e.object ≡ own_pool p n) (IsByPort p n) note.known back.known (λ e is. OfOwnPool is) (new_at (own_pool p n) note back below a)

  pub on_hop : AddsAt (first_hop p n) note back → HasNew (IsByPort p n) note.known back.known
  on_hop a = new_by (λ (e : Entry Content). e.object ≡ first_hop p n) (IsByPort p n) note.known back.known (λ e is. OnOwnHop is) (new_at (first_hop p n) note back below a)

  pub at_memory : (m : ℕ) (x : TxnId) → m < length p.platform.memories → x.initiator ≡ n → AddsOf (memory_place p m) x note back → HasNew (IsByPort p n) note.known back.known
  at_memory m x there own a =
      new_by (IsNewOf (memory_place p m) x) (IsByPort p n) note.known back.known
      (λ e is. Accesses (record { memory = m; there = there; object = is.object; own = ap (λ (y : TxnId). y.initiator) is.txn ∙ own }))
      (new_of (memory_place p m) x note back below a)

module _ (frame : Frame Plan) (tokens : TableId) (k n : ℕ) (who : k ≡ n) (note back : View Content Plan) (below : StandBelow note.known note.seen) where
  as_own : HasNew (IsByPort frame.world k) note.known back.known → HasNew (IsByPort frame.world n) note.known back.known
  as_own h = subst (λ (i : ℕ). HasNew (IsByPort frame.world i) note.known back.known) who h

  pub acquire_adds : (at : ℕ) → HasAcquiredOne frame tokens (own_pool frame.world k) k note back at → HasNew (IsByPort frame.world n) note.known back.known
  acquire_adds at a = as_own (in_pool frame.world k note back below (pool_adds frame tokens (own_pool frame.world k) k note back (Acquire a.baton at) (Acquired a.next a.hold) a.pooled tt))

  pub release_adds : (call : PoolCall) (freed : Bool) → HasPooled frame tokens (own_pool frame.world k) k note back call (Released freed) → HasNew (IsByPort frame.world n) note.known back.known
  release_adds call freed a = as_own (in_pool frame.world k note back below (pool_adds frame tokens (own_pool frame.world k) k note back call (Released freed) a tt))

  pub call_on_hop_adds : (call : HopCall Cargo) (reply : HopReply Cargo) → HasAnswered frame tokens (first_hop frame.world k) k note back call reply → IsMadeOnHop reply → HasNew (IsByPort frame.world n) note.known back.known
  call_on_hop_adds call reply a made = as_own (on_hop frame.world k note back below (hop_adds frame tokens (first_hop frame.world k) k note back call reply a made))

  pub access_adds : (m : ℕ) (c : Cargo) (at : ℕ) (reply : RegionReply) → m < length frame.world.platform.memories → c.baton.txn.initiator ≡ n → HasServedCall frame tokens (memory_place frame.world m) m note back (access_call c at) reply
      → HasNew (IsByPort frame.world n) note.known back.known
  access_adds m c at reply there own a = at_memory frame.world n note back below m c.baton.txn there own (serve_adds frame tokens (memory_place frame.world m) m note back (access_call c at) reply a)

-- a call that names the memory by its number in the platform
pub memory_adds : (p : Plan) (m : ℕ) (x : TxnId) (note back : View Content Plan) → m < length p.platform.memories → AddsOf m x note back → AddsOf (memory_place p m) x note back
memory_adds p m x note back there a = subst (λ (o : ℕ). AddsOf o x note back) (sym (memory_number p.platform m there)) a

-- a move that only ends its pump makes none
pub never_made : (m : Moved) (p : Pumped) → m ≡ ends p → m.entry ≡ true → ⊥
never_made m p q entry = differ (sym (ap (λ (k : Moved). k.entry) q) ∙ entry)
  where
    differ : false ≡ true → ⊥
    differ e = cc
