-- What an actor keeps that is stepped an entry at a time, and what its steps do.
use Rattle.std.specs.Prelude.{ℕ, ◌≡◌, ◌+◌, Bool, true, false, List, length}
use Rattle.atomic_table.specs.Seated.{TableId}
use Rattle.one_history.specs.declared.entry.Entry.{Entry}
use Rattle.one_history.specs.declared.view.Frame.{Frame}
use Rattle.one_history.specs.Held.{Held}
use Rattle.one_history.specs.Lists.{StandBelow}
use Rattle.shared_object.specs.Steps.{IsNote}
use Rattle.tlm_types.specs.declared.entry.Content.{Content}
use Rattle.tlm_model.specs.declared.platform.Platform.{Platform}
use Rattle.tlm_model.specs.declared.platform.Target.TheVariants as targets
use Rattle.tlm_model.specs.Plan.{Plan}
use Rattle.time_board.specs.declared.rounds.Member.{Member}
use Rattle.time_board.specs.Rounds.{member_of}
use Rattle.initiator_run.specs.Board.{HasGoneOn, IsInRound, IsWaiting}
use Rattle.initiator_run.specs.Moves.{Keeps}
use Rattle.node_hops.specs.Steps.{IsAccessOf, IsByNode, IsByPort}
use Rattle.port_moves.specs.declared.hand.Pumped.TheVariants as pumps
use Rattle.decoupled_run.specs.Stepped.{IsStepped}
use Rattle.fourphase_port.specs.Pumps.{HasFinished}
use Rattle.fourphase_port.specs.Stepped.{HasPumpedLast, IsSteppedPort, stepped_with}
use Rattle.router_steps.specs.Stepped.{HasWaited as RouterWaited, IsSteppedRouter}
use Rattle.target_node.specs.Node.{HasWaited as MemoryWaited, IsTarget}
use Rattle.stepped_actors.specs.declared.actor.SteppedActor.{SteppedActor}
use Rattle.stepped_actors.specs.declared.actor.SteppedActor.TheVariants.{Decoupled, FourPhase, Router, Memory}

-- the initiators are numbered first, then the routers, then the memories
abbrev pub number_of : Platform → SteppedActor → ℕ
number_of p (Decoupled s) = s.run.engine.initiator
number_of p (FourPhase s) = s.state.port.engine.initiator
number_of p (Router s) = length p.initiators + s.node.router
number_of p (Memory s) = length p.initiators + length p.routers + s.memory

-- a router or a memory
abbrev pub is_node : SteppedActor → Bool
is_node (Decoupled s) = false
is_node (FourPhase s) = false
is_node (Router s) = true
is_node (Memory s) = true

-- an initiator has finished; a router or a memory never has
abbrev pub HasEnded : SteppedActor → Type 0
HasEnded (Decoupled s) = s.run.finished ≡ true
HasEnded (FourPhase s) = HasFinished s.state
HasEnded (Router s) = ⊥
HasEnded (Memory s) = ⊥

-- a blocking or direct initiator is stepped only where it has not finished
abbrev pub IsGoing : SteppedActor → Type 0
IsGoing (Decoupled s) = s.run.finished ≡ false
IsGoing (FourPhase s) = Unit {0}
IsGoing (Router s) = Unit {0}
IsGoing (Memory s) = Unit {0}

module _ (table tokens : TableId) (frame : Frame Plan) where
  abbrev pub KeepsAs : SteppedActor → Held Content Plan → Type 0
  KeepsAs (Decoupled s) note = IsStepped table tokens frame s note
  KeepsAs (FourPhase s) note = IsSteppedPort table tokens frame s note
  KeepsAs (Router s) note = IsSteppedRouter frame tokens s note.knows.known
  KeepsAs (Memory s) note = IsTarget frame tokens s note.knows.known

  -- what an actor keeps by the note of who steps it
  pub record KeepsBy (a : SteppedActor) (note : Held Content Plan) : Type 0 where
    pub note_of : IsNote table note
    pub below : StandBelow note.knows.known note.knows.seen
    pub keeps : KeepsAs a note

-- an entry that is this actor's
abbrev pub IsMadeBy : Plan → SteppedActor → Entry Content → Type 0
IsMadeBy p (Decoupled s) e = IsAccessOf p s.run.engine.initiator e
IsMadeBy p (FourPhase s) e = IsByPort p s.state.port.engine.initiator e
IsMadeBy p (Router s) e = IsByNode p (targets.Router s.node.router) e
IsMadeBy p (Memory s) e = IsByNode p (targets.Memory s.memory) e

-- what the rounds know of an actor: a four-phase initiator holds nobody back
abbrev pub IsMember : List Member → SteppedActor → Type 0
IsMember members (Decoupled s) = IsInRound members s.run.engine.initiator s.run
IsMember members (FourPhase s) = (member_of members s.state.port.engine.initiator).finished ≡ true
IsMember members (Router s) = Unit {0}
IsMember members (Memory s) = Unit {0}

-- how the rounds go on in a step
abbrev pub MovesRounds : SteppedActor → SteppedActor → List Member → List Member → Type 0
MovesRounds (Decoupled s) (Decoupled t) before after = HasGoneOn s.run t.run before after
MovesRounds old new before after = after ≡ before

-- Why an actor waits. The last sync of a blocking or direct initiator isn't let through, and it has made no entry. A pump of any other found nothing
-- that it could do, by every look.
abbrev pub WaitsFor : Frame Plan → TableId → SteppedActor → SteppedActor → Held Content Plan → Held Content Plan → List Member → Type 0
WaitsFor frame tokens (Decoupled s) (Decoupled t) note back members = IsWaiting members t.run × Keeps frame.world s.run t.run
WaitsFor frame tokens (FourPhase s) (FourPhase t) note back members = HasPumpedLast frame pumps.Nothing (stepped_with s note) (stepped_with t back)
WaitsFor frame tokens (Router s) (Router t) note back members = RouterWaited frame tokens t.node note.knows back.knows
WaitsFor frame tokens (Memory s) (Memory t) note back members = MemoryWaited frame tokens s t note.knows back.knows
WaitsFor frame tokens old new note back members = ⊥
