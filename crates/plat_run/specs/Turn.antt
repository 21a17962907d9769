-- What a turn of a job has come to.
use Rattle.std.specs.Prelude.{◌≡◌, ◌≢◌, ◌↔◌, Bool, true, false}
use Rattle.one_history.specs.declared.view.Frame.{Frame}
use Rattle.tlm_model.specs.Plan.{Plan}
use Rattle.initiator_run.specs.Steps.{StepsOnce}
use Rattle.fourphase_port.specs.Pumps.{IsPumped}
use Rattle.port_moves.specs.declared.hand.Pumped.{Pumped}
use Rattle.port_moves.specs.declared.hand.Pumped.TheVariants.{Did, Nothing, Finished}
use Rattle.plat_run.specs.Ports.{PortRun}
use Rattle.plat_run.specs.declared.actor.Actor.{Actor}
use Rattle.plat_run.specs.declared.actor.Actor.TheVariants.{Decoupled, FourPhase, Memory, Router}
use Rattle.plat_run.specs.declared.turn.JobTurn.{JobTurn}
use Rattle.plat_run.specs.declared.turn.JobTurn.TheVariants.{WentOn, HeldBack, Idle}

-- the job's last sync was not let through
abbrev pub is_held_back : JobTurn → Bool
is_held_back (HeldBack reached) = true
is_held_back turn = false

-- what a turn of a port comes to, by its pump
abbrev pub turn_by : Pumped → JobTurn
turn_by Did = WentOn
turn_by Nothing = Idle
turn_by Finished = WentOn

-- the pump is the last one
abbrev pub finishes : Pumped → Bool
finishes Did = false
finishes Nothing = false
finishes Finished = true

-- A turn of a port is one pump. It has finished where the pump said so.
pub record IsPortTurn (frame : Frame Plan) (old new : PortRun) (turn : JobTurn) : Type 0 where
  pub pumped : Pumped
  pub is : IsPumped frame old.port new.port pumped
  pub turn_is : turn ≡ turn_by pumped
  pub finished : new.finished ≡ finishes pumped

-- What a turn is, by the kind of the job: of a blocking or direct initiator at most one step of its script, and it is held back just where its last sync was not
-- let through; of a four-phase initiator one pump; and a memory and a router are never held back.
abbrev pub HasTurned : {N : Type 0} → Frame Plan → Actor N → Actor N → JobTurn → Type 0
HasTurned frame (Decoupled old) (Decoupled new) turn = StepsOnce old.value.engine new.value.engine × ((is_held_back turn ≡ true) ↔ (new.value.round ≢ new.value.syncs))
HasTurned frame (FourPhase old) (FourPhase new) turn = IsPortTurn frame old.value new.value turn
HasTurned frame (Memory old) (Memory new) turn = is_held_back turn ≡ false
HasTurned frame (Router old) (Router new) turn = is_held_back turn ≡ false
HasTurned frame old new turn = ⊥
