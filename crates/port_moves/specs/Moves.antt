-- What each move of a port does. A move that isn't told here of a field leaves it.
use Rattle.std.specs.Prelude.{ℕ, ◌≡◌, ◌≤◌, max, Bool, true, false, List, [], ◌∷◌, ◌++◌, length, Option, Some, None}
use Rattle.view_lists.specs.Lists.{Within}
use Rattle.one_history.specs.declared.view.Frame.{Frame}
use Rattle.tlm_types.specs.declared.words.Phase.TheVariants.{BeginReq, BeginResp, EndResp}
use Rattle.tlm_types.specs.declared.words.TlmSync.{TlmSync}
use Rattle.tlm_types.specs.declared.words.TlmSync.TheVariants.{Completed}
use Rattle.tlm_types.specs.declared.words.TxnId.{TxnId}
use Rattle.tlm_model.specs.Plan.{Plan, Initiator}
use Rattle.tlm_model.specs.Route.{later}
use Rattle.payload_pool.specs.declared.baton.Baton.{Baton}
use Rattle.flow_model.specs.Events.{Among, Event, FindsAt, IsAcquire, IsAccess, IsCall, IsRelease}
use Rattle.flow_model.specs.Platform.{world_of}
use Rattle.cargo_model.specs.declared.cargo.Cargo.{Cargo}
use Rattle.cargo_model.specs.Known.{Known}
use Rattle.script_engine.specs.declared.part.Part.TheVariants.{Pauses}
use Rattle.script_engine.specs.declared.part.Pause.{Pause}
use Rattle.script_engine.specs.declared.part.Transfer.{Transfer}
use Rattle.script_engine.specs.Asking.{time_past_pause}
use Rattle.script_engine.specs.State.{next_of, op_of, passed_by, told_by}
use Rattle.port_model.specs.Issues.{IsWaitingOp}
use Rattle.port_model.specs.Laws.{Removes, next_request, refused_for}
use Rattle.port_model.specs.Way.{Port}
use Rattle.port_moves.specs.Reach.{first_hop, memory_place, own_pool}
use Rattle.port_moves.specs.State.{PortView, StateView}
use Rattle.port_moves.specs.declared.hand.Hand.{Hand}
use Rattle.port_moves.specs.declared.hand.Hand.TheVariants.{Free, Taken, Acquired, Begun, Owed, Ended, Released}

-- the looks of a move: at the object with this number in the history, where 0 says that it wasn't in vain
abbrev pub LooksAt : PortView → PortView → ℕ → ℕ → Type 0
LooksAt old new number look = new.note.knows.looks ≡ old.note.knows.looks ++ (number, look) ∷ []

-- what was known is known
abbrev pub KeepsKnown : PortView → PortView → Type 0
KeepsKnown old new = Within old.note.knows.known new.note.knows.known

-- the port is the one that it was, but for what it works on, its note and its wallet
pub record KeepsPort (old new : PortView) : Type 0 where
  pub port : new.port ≡ old.port
  pub room : new.room ≡ old.room
  pub known : KeepsKnown old new

-- the access that is next is outstanding, and told as refused where it has no route; the engine passes it, or waits for it where it is fenced
abbrev pub port_taken : Plan → Initiator → Port → Transfer → Bool → Port
port_taken p i port x false = record port { engine = passed_by port.engine; away = port.engine.seq ∷ port.away; refused = port.refused ++ refused_for p i (next_request port x) port.time }
port_taken p i port x true = record port { waiting = true; away = port.engine.seq ∷ port.away; refused = port.refused ++ refused_for p i (next_request port x) port.time }

-- the debug read that is next was made, and told as refused where it has no route; the engine passes it
abbrev pub port_read : Plan → Initiator → Port → Transfer → Port
port_read p i port x = record port { engine = passed_by port.engine; refused = port.refused ++ refused_for p i (next_request port x) port.time }

-- an access that was outstanding is back: it ended at this time; where the engine waits for it, it is told the payload's bytes
abbrev pub port_back : Port → List ℕ → ℕ → List ℕ → Bool → Port
port_back port away end got false = record port { latest = max port.latest end; away = away }
port_back port away end got true = record port { engine = told_by port.engine got; waiting = false; latest = max port.latest end; away = away }

-- after BEGIN_REQ, made at this time, the payload is gone, or its memory is still to be called
abbrev pub HasGone : ℕ → Hand → Type 0
HasGone time Free = Unit {0}
HasGone time (Begun c at leg) = at ≡ time
HasGone time hand = ⊥

-- after the access at the memory, made at this time, the response is due after its latency: END_RESP may be made then, where it is owed, and
-- else the access has ended then
abbrev pub IsDue : ℕ → Hand → Type 0
IsDue due (Owed c leg at) = at ≡ due
IsDue due (Ended c end) = end ≡ due
IsDue due hand = ⊥

-- a response with its BEGIN_RESP at this time was fetched
abbrev pub IsFetched : ℕ → Hand → Type 0
IsFetched at (Owed c leg time) = time ≡ at
IsFetched at (Ended c end) = end ≡ at
IsFetched at hand = ⊥

-- a payload is still to be stowed, at this time
abbrev pub IsToStow : ℕ → Hand → Type 0
IsToStow end (Released b ticket time) = time ≡ end
IsToStow end hand = ⊥

-- whose payload it works on
abbrev pub txn_in : Hand → Option TxnId
txn_in Free = None
txn_in (Taken b) = Some b.txn
txn_in (Acquired c) = Some c.baton.txn
txn_in (Begun c at leg) = Some c.baton.txn
txn_in (Owed c leg at) = Some c.baton.txn
txn_in (Ended c end) = Some c.baton.txn
txn_in (Released b ticket end) = Some b.txn

module _ (frame : Frame Plan) where
  -- what the note knows
  abbrev pub Entered : PortView → Event → Type 0
  Entered new = Known frame.world.platform new.note.knows.known

  -- ACQUIRE. The first reference was acquired, at the time of the Take.
  pub record Acquires (b : Baton) (old new : PortView) : Type 0 where
    pub keeps : KeepsPort old new
    pub cargo : Cargo
    pub hand : new.hand ≡ Acquired cargo
    pub held : new.held ≡ old.held
    pub acquired : FindsAt (Entered new) (IsAcquire b.txn 0) old.port.time
    pub look : LooksAt old new (own_pool frame.world old.port.engine.initiator) 0

  -- BEGIN. BEGIN_REQ was made on the first hop, tried at the current time: the payload is gone, or its response comes by return.
  pub record Begins (c : Cargo) (old new : PortView) : Type 0 where
    pub keeps : KeepsPort old new
    pub answer : TlmSync
    pub time : ℕ
    pub late : old.port.time ≤ time
    pub made : FindsAt (Entered new) (IsCall c.baton.txn old.port.engine.initiator BeginReq answer) time
    pub gone : HasGone time new.hand
    pub held : new.held ≡ None
    pub look : LooksAt old new (first_hop frame.world old.port.engine.initiator) 0

  -- a request is open on the first hop, or no lane is free: the request is held
  pub record FindsBusy (c : Cargo) (old new : PortView) : Type 0 where
    pub keeps : KeepsPort old new
    pub same : Cargo
    pub txn : same.baton.txn ≡ c.baton.txn
    pub hand : new.hand ≡ Free
    pub held : new.held ≡ Some same
    pub look : LooksAt old new (first_hop frame.world old.port.engine.initiator) 3

  -- SERVE. The memory was called at the time of BEGIN_REQ.
  pub record Serves (c : Cargo) (at : ℕ) (old new : PortView) : Type 0 where
    pub keeps : KeepsPort old new
    pub memory : ℕ
    pub made : FindsAt (Entered new) (IsAccess c.baton.txn) at
    pub due : IsDue (later at (((world_of frame.world).hop old.port.engine.initiator).latency)) new.hand
    pub txn : txn_in new.hand ≡ Some c.baton.txn
    pub held : new.held ≡ old.held
    pub look : LooksAt old new (memory_place frame.world memory) 0

  -- FETCH. A response was fetched, whose BEGIN_RESP is known with its time.
  pub record Fetches (old new : PortView) : Type 0 where
    pub keeps : KeepsPort old new
    pub x : TxnId
    pub at : ℕ
    pub answer : TlmSync
    pub made : FindsAt (Entered new) (IsCall x old.port.engine.initiator BeginResp answer) at
    pub txn : txn_in new.hand ≡ Some x
    pub fetched : IsFetched at new.hand
    pub held : new.held ≡ old.held
    pub look : LooksAt old new (first_hop frame.world old.port.engine.initiator) 0

  -- none waits there
  pub record FindsNone (old new : PortView) : Type 0 where
    pub keeps : KeepsPort old new
    pub hand : new.hand ≡ old.hand
    pub held : new.held ≡ old.held
    pub look : LooksAt old new (first_hop frame.world old.port.engine.initiator) 2

  -- END. END_RESP was made, by which the access has ended.
  pub record Ends (c : Cargo) (at : ℕ) (old new : PortView) : Type 0 where
    pub keeps : KeepsPort old new
    pub time : ℕ
    pub late : at ≤ time
    pub made : FindsAt (Entered new) (IsCall c.baton.txn old.port.engine.initiator EndResp Completed) time
    pub same : Cargo
    pub txn : same.baton.txn ≡ c.baton.txn
    pub hand : new.hand ≡ Ended same time
    pub held : new.held ≡ old.held
    pub look : LooksAt old new (first_hop frame.world old.port.engine.initiator) 0

  -- RELEASE. The reference of the first hop was released, at the time at which the access has ended, and the access is back: its number isn't
  -- outstanding any more, and the engine is told it where it waits for it. A payload of no access that is outstanding leaves its tickets alone.
  pub record TakesBack (c : Cargo) (end : ℕ) (old new : PortView) : Type 0 where
    pub freed : Bool
    pub released : FindsAt (Entered new) (IsRelease c.baton.txn 0 freed) end
    pub away : List ℕ
    pub removes : Removes old.port.away c.baton.txn.seq away
    pub port : new.port ≡ port_back old.port away end c.baton.payload.bytes old.port.waiting
    pub hand : IsToStow end new.hand
    pub txn : txn_in new.hand ≡ Some c.baton.txn
    pub held : new.held ≡ old.held
    pub look : LooksAt old new (own_pool frame.world old.port.engine.initiator) 0

  pub record PutsStray (c : Cargo) (end : ℕ) (old new : PortView) : Type 0 where
    pub stray : Among old.port.away c.baton.txn.seq → ⊥
    pub keeps : KeepsPort old new
    pub hand : IsToStow end new.hand
    pub txn : txn_in new.hand ≡ Some c.baton.txn
    pub held : new.held ≡ old.held
    pub look : LooksAt old new (own_pool frame.world old.port.engine.initiator) 0

  -- STOW. The payload was put back at the time at which the access has ended.
  pub record Stows (b : Baton) (end : ℕ) (old new : PortView) : Type 0 where
    pub keeps : KeepsPort old new
    pub freed : Bool
    pub stowed : FindsAt (Entered new) (IsRelease b.txn 15 freed) end
    pub hand : new.hand ≡ Free
    pub held : new.held ≡ old.held
    pub look : LooksAt old new (own_pool frame.world old.port.engine.initiator) 0

-- all but the port's script and times is as it was
pub record KeepsRest (old new : StateView) : Type 0 where
  pub hand : new.hand ≡ old.hand
  pub held : new.held ≡ old.held
  pub room : new.room ≡ old.room
  pub payload : new.payload ≡ old.payload
  pub wallet : new.wallet ≡ old.wallet

-- SETTLE. Nothing is outstanding and something else than a plain access is next: the current time is the greatest of itself and all ends so far.
pub record Settles (old new : StateView) : Type 0 where
  pub free : length old.port.away ≡ 0
  pub waiting : IsWaitingOp (op_of old.port.engine)
  pub port : new.port ≡ (let port = old.port in record port { time = max port.time port.latest })
  pub rest : KeepsRest old new

-- PAUSE. A wait, a sync or a fence was passed.
pub record Passes (pause : Pause) (old new : StateView) : Type 0 where
  pub is_next : next_of old.port.engine ≡ Pauses pause
  pub port : new.port ≡ (let port = old.port in record port { engine = passed_by port.engine; time = time_past_pause pause port.time })
  pub rest : KeepsRest old new
