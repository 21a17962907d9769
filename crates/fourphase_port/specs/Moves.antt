-- What each move of a port does that goes on in its script. A move that isn't told here of a field leaves it.
use Rattle.std.specs.Prelude.{ℕ, ◌≡◌, ◌≤◌, ◌+◌, ◌-◌, ◌^◌, min, Bool, true, false, List, Some, None, slice_get}
use Rattle.one_history.specs.declared.entry.Entry.{Entry}
use Rattle.one_history.specs.declared.view.Frame.{Frame}
use Rattle.tlm_types.specs.declared.entry.Content.{Content}
use Rattle.tlm_types.specs.declared.words.ObjectNo.TheVariants.{Memory}
use Rattle.tlm_types.specs.declared.words.TxnId.{TxnId}
use Rattle.tlm_model.specs.Plan.{Plan, Initiator, initiators_of}
use Rattle.tlm_model.specs.Route.{Route, route_of}
use Rattle.token_book.specs.Purse.{Purse}
use Rattle.route_plan.specs.declared.step.Route.{Route as PlanRoute}
use Rattle.plat_net.specs.Calls.{route_at}
use Rattle.dmi_grants.specs.Invalidating.{HasInvalidated}
use Rattle.payload_pool.specs.declared.baton.Baton.{Baton}
use Rattle.flow_model.specs.Events.{Event, FindsAt, IsTake}
use Rattle.cargo_model.specs.Known.{Known}
use Rattle.joined_traffic.specs.Accesses.{txn_of}
use Rattle.node_hops.specs.Steps.{HasNew, IsByPort}
use Rattle.script_engine.specs.declared.part.Part.TheVariants.{Asks}
use Rattle.script_engine.specs.declared.part.Transfer.{Transfer}
use Rattle.script_engine.specs.declared.part.TransferKind.{TransferKind}
use Rattle.script_engine.specs.declared.part.TransferKind.TheVariants as kinds
use Rattle.script_engine.specs.State.{next_of, passed_by}
use Rattle.port_model.specs.Laws.{HasSettled}
use Rattle.port_model.specs.Way.{Port}
use Rattle.port_moves.specs.Reach.{own_pool}
use Rattle.port_moves.specs.State.{PortView}
use Rattle.port_moves.specs.declared.hand.Moved.{Moved}
use Rattle.port_moves.specs.declared.hand.Hand.TheVariants.{Taken}
use Rattle.port_moves.specs.Moves.{Entered, KeepsPort, LooksAt, port_read, port_taken}

-- an entry of this memory for a debug read of x
pub record IsReadOf (x : TxnId) (memory : ℕ) (e : Event) : Type 0 where
  pub object : e.object ≡ Memory memory
  pub txn : e.txn ≡ x

-- a Take of x at this time is known, at a position that is no less than what had been seen
pub record TakesLate (frame : Frame Plan) (x : TxnId) (at seen : ℕ) (known : List (Entry Content)) : Type 0 where
  pub take : FindsAt (Known frame.world.platform known) (IsTake x) at
  pub later : seen ≤ take.event.position

-- A transfer that is next may be taken: a plain access at any time, and one that the engine waits for once nothing is outstanding and the time
-- is settled.
abbrev pub MayTakeKind : Port → TransferKind → Type 0
MayTakeKind port (kinds.Access command plain false) = port.waiting ≡ false
MayTakeKind port (kinds.Access command plain true) = HasSettled port
MayTakeKind port kinds.DebugRead = ⊥

abbrev pub MayTakeNext : Port → Transfer → Type 0
MayTakeNext port x = MayTakeKind port x.kind

-- the initiator of a port in its plan
abbrev pub IsItsInitiator : Plan → PortView → Initiator → Type 0
IsItsInitiator p v i = slice_get (initiators_of p) v.port.engine.initiator ≡ Some i

module _ (frame : Frame Plan) where
  -- TAKE. The access that is next was taken, at the current time.
  pub record Takes (fenced : Bool) (old new : PortView) : Type 0 where
    pub transfer : Transfer
    pub is_next : next_of old.port.engine ≡ Asks transfer
    pub baton : Baton
    pub hand : new.hand ≡ Taken baton
    pub of : baton.txn ≡ txn_of old.port.engine.initiator old.port.engine.seq
    pub taken : FindsAt (Entered frame new) (IsTake baton.txn) old.port.time
    pub port : (i : Initiator) → IsItsInitiator frame.world old i → new.port ≡ port_taken frame.world i old.port transfer fenced
    pub held : new.held ≡ old.held
    pub look : LooksAt old new (own_pool frame.world old.port.engine.initiator) 0

  -- all slots of the pool are live: nothing has changed but the note
  pub record FindsFull (old new : PortView) : Type 0 where
    pub keeps : KeepsPort old new
    pub hand : new.hand ≡ old.hand
    pub held : new.held ≡ old.held
    pub look : LooksAt old new (own_pool frame.world old.port.engine.initiator) 6

-- FINISH. It has looked how many slots of its pool are live: 0 says that none is, and 7 that some are.
pub record LooksLive (frame : Frame Plan) (live : ℕ) (old new : PortView) : Type 0 where
  pub keeps : KeepsPort old new
  pub hand : new.hand ≡ old.hand
  pub held : new.held ≡ old.held
  pub look : LooksAt old new (own_pool frame.world old.port.engine.initiator) live

-- the last of so many bytes from a place of a memory
abbrev pub last_place : ℕ → ℕ → ℕ
last_place offset count = min (offset + (count - 1)) (2 ^ 64 - 1)

-- INVALIDATE. The invalidation of so many bytes from this address that is next was made at the current time, and passed. At the memory to which the
-- address leads it was told, in one entry, and each grant that it overlaps has its closing: by an entry of this port, one for each, where nobody
-- else has closed it. Without a route nothing was done.
pub record InvalidatesNext (frame : Frame Plan) (address count : ℕ) (old new : PortView) : Type 0 where
  pub port : new.port ≡ (let port = old.port in record port { engine = passed_by port.engine })
  pub hand : new.hand ≡ old.hand
  pub held : new.held ≡ old.held
  pub made : (r : PlanRoute) → route_at frame.world old.port.engine.initiator address ≡ Some r → (spent : Purse) ×
      HasInvalidated frame r.memory (txn_of old.port.engine.initiator old.port.engine.seq) old.port.time r.offset (last_place r.offset count) old.note.knows new.note.knows old.wallet spent
  pub none : route_at frame.world old.port.engine.initiator address ≡ None → (new.note ≡ old.note) × (new.wallet ≡ old.wallet)

-- a move that has made an entry has made one of the port's own
abbrev pub AddsOwn : Frame Plan → PortView → PortView → Moved → Type 0
AddsOwn frame old new m = m.entry ≡ true → HasNew (IsByPort frame.world old.port.engine.initiator) old.note.knows.known new.note.knows.known

-- DEBUG. A debug read was made at the current time and passed, as an entry of its memory where it has a route.
pub record ReadsDebug (frame : Frame Plan) (old new : PortView) : Type 0 where
  pub transfer : Transfer
  pub is_next : next_of old.port.engine ≡ Asks transfer
  pub kind : transfer.kind ≡ kinds.DebugRead
  pub port : (i : Initiator) → IsItsInitiator frame.world old i → new.port ≡ port_read frame.world i old.port transfer
  pub hand : new.hand ≡ old.hand
  pub held : new.held ≡ old.held
  pub entry : (i : Initiator) (r : Route) → IsItsInitiator frame.world old i → route_of frame.world.platform i transfer.address ≡ Some r →
      FindsAt (Entered frame new) (IsReadOf (txn_of old.port.engine.initiator old.port.engine.seq) r.memory) old.port.time
  pub no_entry : (i : Initiator) → IsItsInitiator frame.world old i → route_of frame.world.platform i transfer.address ≡ None → new.note ≡ old.note
